-- What each condition of Q-10 is for, computed on the plain model; threshold 2, timeout 10. Calls stand newest first.
-- Assumes nothing.
use mathlib.Core.Path.{◌≡◌, refl}
use mathlib.Core.Bool.{Bool, true, false}
use mathlib.Core.List.{List, [], ◌∷◌, ◌++◌}
use Prim.Native.Nat.{ℕ, ◌^◌}
use lib.ListN.{length}
use Rattle.limits.specs.Refusals.{counts_full}
use Rattle.monitor.specs.declared.State.{State}
use Rattle.monitor.specs.declared.State.TheVariants.{Idle, Active, Failed}
use Rattle.monitor.specs.States.{same, enters}
use Rattle.monitor_model.specs.Plain.{Plain, new, insert, remove}
use Rattle.monitor_model.specs.Playing.{Call, sending, replying, advancing, idling, play_plain}
use Rattle.monitor_in_time.specs.Calls.{played}
use Rattle.monitor_in_time.specs.InTime.{popped}
use Rattle.monitor_in_time.specs.Core.{plain}

-- what stands after these calls from fresh
abbrev from : List Call → Plain
from cs = played plain (new 2 10) cs

-- how many probes are queued, and the state
abbrev shown : Plain → ℕ × State
shown p = (length p.probes, p.summary.state)

-- ---- as it should be

-- two probes are queued, both are due, and one advance ends in Failed; the send times go back, and the sequence is queued twice
in_time : (shown (from (sending 7 0 ∷ sending 7 5 ∷ [])) ≡ (2, Idle)) × (shown (from (advancing 15 ∷ sending 7 0 ∷ sending 7 5 ∷ [])) ≡ (0, Failed))
unfolding played play_plain same enters insert remove
in_time = (refl, refl)

-- threshold 0 counts as 1
zero_is_one : shown (played plain (new 0 10) (advancing 10 ∷ sending 7 0 ∷ [])) ≡ (0, Failed)
unfolding played play_plain same enters insert remove
zero_is_one = refl

-- A PROBE IS COUNTED ONLY WHEN `advance` IS CALLED: both are long overdue, and another is sent
not_called : shown (from (sending 9 1000 ∷ sending 8 0 ∷ sending 7 0 ∷ [])) ≡ (3, Idle)
unfolding played play_plain same enters insert remove
not_called = refl

-- with timeout 0 no probe is queued, and Failed never comes
no_timeout : shown (played plain (new 2 0) (advancing 1000 ∷ sending 8 0 ∷ sending 7 0 ∷ [])) ≡ (0, Idle)
unfolding played play_plain same enters insert remove
no_timeout = refl

-- ---- one advance does not end in Failed where

-- fewer than threshold probes are queued
too_few : shown (from (advancing 10 ∷ sending 7 0 ∷ [])) ≡ (0, Idle)
unfolding played play_plain same enters insert remove
too_few = refl

-- one of the two deadlines is after now
not_due : shown (from (advancing 14 ∷ sending 8 5 ∷ sending 7 0 ∷ [])) ≡ (1, Idle)
unfolding played play_plain same enters insert remove
not_due = refl

-- a front probe is not due: the two behind it are, and wait
blocked : shown (from (advancing 50 ∷ sending 9 0 ∷ sending 8 0 ∷ sending 7 100 ∷ [])) ≡ (3, Idle)
unfolding played play_plain same enters insert remove
blocked = refl

-- two due probes in a monitor that no calls from fresh leave, or that has given 2^63 notifications
abbrev two_due : Bool → ℕ → Plain
two_due transmitting notifications = record {
  summary = record { state = Idle; loss_threshold = 2; consecutive_losses = 0; active_notifications = notifications; failed_notifications = 0; idle_notifications = 0 };
  timeout = 10;
  transmitting = transmitting;
  probes = record { sequence = 7; deadline = 10 } ∷ record { sequence = 8; deadline = 10 } ∷ [];
  received = λ s. false;
}

-- the advance is refused, with 4
refused : ((play_plain (advancing 10) (two_due true (2 ^ 63))).number ≡ counts_full) × (shown (play_plain (advancing 10) (two_due true (2 ^ 63))).plain ≡ (2, Idle))
unfolding play_plain same enters insert remove
refused = (refl, refl)

-- it is not reached from fresh: probes are queued, and it is not transmitting
not_reached : shown (play_plain (advancing 10) (two_due false 0)).plain ≡ (0, Idle)
unfolding play_plain same enters insert remove
not_reached = refl

-- ---- Failed does not come with the second pop since where

-- the calls since, and what is popped and shown then
abbrev since : List Call → List Call → ℕ × State
since cs past = (popped plain (from past) cs, (from (cs ++ past)).summary.state)

-- the loss count was 1: it comes with the first
losses_before : since (advancing 30 ∷ sending 8 20 ∷ []) (advancing 10 ∷ sending 7 0 ∷ []) ≡ (1, Failed)
unfolding played play_plain popped same enters insert remove
losses_before = refl

-- a reply came in between
replied : since (advancing 40 ∷ sending 9 30 ∷ replying 8 ∷ sending 8 20 ∷ advancing 10 ∷ sending 7 0 ∷ []) [] ≡ (2, Active)
unfolding played play_plain popped same enters insert remove
replied = refl

-- `idle` came in between, from Active
idled : since (advancing 40 ∷ sending 9 30 ∷ idling ∷ advancing 20 ∷ sending 8 10 ∷ []) (replying 7 ∷ sending 7 0 ∷ []) ≡ (2, Idle)
unfolding played play_plain popped same enters insert remove
idled = refl

-- but `idle` in Idle keeps the losses (document 01), and it comes all the same
idled_in_idle : since (advancing 40 ∷ sending 9 30 ∷ idling ∷ advancing 20 ∷ sending 8 10 ∷ []) [] ≡ (2, Failed)
unfolding played play_plain popped same enters insert remove
idled_in_idle = refl
