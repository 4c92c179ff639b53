-- Calls one after another on anything that has a monitor in it: the core's monitor with its room, a host's words, a link.
-- Assumes nothing.
use Rattle.std.specs.Prelude.{Bool, List, [], ◌∷◌, ℕ, Option}
use Rattle.monitor.specs.declared.Summary.{Summary}
use Rattle.monitor_model.specs.Plain.{Sent}
use Rattle.monitor_model.specs.Playing.{Call}

-- what is seen of a monitor: its summary, whether it is transmitting, and its queued probes from front to back
pub record Seen : Type 0 where
  pub summary : Summary
  pub transmitting : Bool
  pub queued : List Sent

-- calls C on a thing X that has a monitor in it: a call's number, 0 where it is served; what it leaves; the call of the monitor that it makes, or none;
-- and what is seen of the monitor
pub record Monitored (C X : Type 0) : Type 0 where
  pub number : X → C → ℕ
  pub after : X → C → X
  pub drives : X → C → Option Call
  pub seen : X → Seen

-- what stands after all calls, newest first, each given what the last one left
unfoldable pub played : {C X : Type 0} → Monitored C X → X → List C → X
played on x [] = x
played on x (c ∷ cs) = on.after (played on x cs) c

-- every call of a list is such
unfoldable pub All : {C : Type 0} → (C → Type 0) → List C → Type 0
All P [] = Unit {0}
All P (c ∷ cs) = P c × All P cs
