-- Document 02, Q-10, "Prove that Failed comes in time": of every monitor that is reached from fresh.
-- Assumes nothing.
use Rattle.std.specs.Prelude.{◌≡◌, true, List, [], ◌∷◌, ℕ, ◌+◌, ◌-◌, ◌≤◌, ◌<◌, eqb, length, Option, None, Some}
use Rattle.probe_queue.specs.Queue.{choose}
use Rattle.monitor.specs.declared.State.TheVariants.{Failed}
use Rattle.monitor_model.specs.Plain.{Sent}
use Rattle.monitor_model.specs.Playing.{Call, sending, replying, advancing, idling}
use Rattle.monitor_in_time.specs.Calls.{Seen, Monitored, played, All}

-- the threshold that counts: "threshold 0 counts as 1"
abbrev pub counting : ℕ → ℕ
counting threshold = choose (eqb threshold 0) 1 threshold

-- the state is Failed
abbrev pub Fails : Seen → Type 0
Fails s = s.summary.state ≡ Failed

-- "every queued deadline is at or before now"
abbrev pub AllDue : ℕ → List Sent → Type 0
AllDue now [] = Unit {0}
AllDue now (probe ∷ probes) = (probe.deadline ≤ now) × AllDue now probes

-- the probes that one call pops: an `advance`, as many as are queued no more after it
abbrev pub pops : Option Call → (before after : Seen) → ℕ
pops None before after = 0
pops (Some (sending s t)) before after = 0
pops (Some (replying s)) before after = 0
pops (Some (advancing now)) before after = length before.queued - length after.queued
pops (Some idling) before after = 0

-- a call with this number is no reply and no `idle`, or it is refused
abbrev pub Quiet : Option Call → ℕ → Type 0
Quiet None n = Unit {0}
Quiet (Some (sending s t)) n = Unit {0}
Quiet (Some (replying s)) n = n ≡ 0 → ⊥
Quiet (Some (advancing now)) n = Unit {0}
Quiet (Some idling) n = n ≡ 0 → ⊥

-- what both lean on; the last two say that with loss count 0 a monitor isn't Failed
pub record Sound (threshold : ℕ) (s : Seen) : Type 0 where
  pub counts : s.summary.loss_threshold ≡ threshold
  pub queued_is_transmitting : 0 < length s.queued → s.transmitting ≡ true
  pub failed_is_transmitting : Fails s → s.transmitting ≡ true
  pub not_failed-is_below : (Fails s → ⊥) → s.summary.consecutive_losses < threshold
  pub failed_is_not_below : Fails s → threshold ≤ s.summary.consecutive_losses

module _ {C X : Type 0} (on : Monitored C X) where
  -- the probes that these calls pop, all together; newest first
  unfoldable pub popped : X → List C → ℕ
  popped x [] = 0
  popped x (c ∷ cs) = popped x cs + pops (on.drives (played on x cs) c) (on.seen (played on x cs)) (on.seen (on.after (played on x cs) c))

  -- "with no reply or idle in between"
  unfoldable pub AllQuiet : X → List C → Type 0
  AllQuiet x [] = Unit {0}
  AllQuiet x (c ∷ cs) = Quiet (on.drives (played on x cs) c) (on.number (played on x cs) c) × AllQuiet x cs

  -- "if at least threshold probes are queued, and every queued deadline is at or before now, one served advance ends in Failed"
  abbrev pub FailsAtOnce : (C → Type 0) → (threshold : ℕ) → X → Type 0
  FailsAtOnce Fits threshold x = (c : C) → Fits c → (now : ℕ) → on.drives x c ≡ Some (advancing now) → on.number x c ≡ 0
      → threshold ≤ length (on.seen x).queued → AllDue now (on.seen x).queued → Fails (on.seen (on.after x c))

  -- "Failed comes with the advance that pops the threshold-th probe and with no earlier one": while fewer are popped it has not come, and from then on it has
  pub record ComesWith (threshold : ℕ) (x : X) (since : List C) : Type 0 where
    pub no_earlier : popped x since < threshold → Fails (on.seen (played on x since)) → ⊥
    pub comes : threshold ≤ popped x since → Fails (on.seen (played on x since))

  -- the call c, made after these, is the advance that pops the threshold-th probe
  abbrev pub PopsTheThreshold : (threshold : ℕ) → X → List C → C → Type 0
  PopsTheThreshold threshold x since c = ((now : ℕ) × (on.drives (played on x since) c ≡ Some (advancing now))) × (popped x since < threshold) × (threshold ≤ popped x (c ∷ since))

  -- THE STATEMENT, of all that is reached from fresh by calls that fit their types, refused ones included
  pub record InTime (Fits : C → Type 0) (threshold : ℕ) (fresh : X) : Type 0 where
    pub sound : (past : List C) → All Fits past → Sound threshold (on.seen (played on fresh past))
    pub at_once : (past : List C) → All Fits past → FailsAtOnce Fits threshold (played on fresh past)
    pub in_time : (past : List C) → All Fits past → (on.seen (played on fresh past)).summary.consecutive_losses ≡ 0
        → (since : List C) → All Fits since → AllQuiet (played on fresh past) since → ComesWith threshold (played on fresh past) since
    -- Failed stays until a reply or `idle` is served
    pub stays : (past : List C) → All Fits past → Fails (on.seen (played on fresh past))
        → (since : List C) → All Fits since → AllQuiet (played on fresh past) since → Fails (on.seen (played on (played on fresh past) since))
