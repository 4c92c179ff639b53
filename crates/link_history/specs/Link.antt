-- Which calls are refused, from the plain list h of those served before: so the served calls themselves follow from the calls that were made.
-- Refusal 5 does not appear: a link made over rooms of the right size never meets it.
-- Assumes nothing.
use Rattle.std.specs.Prelude.{◌≡◌, Bool, true, List, [], ◌∷◌, ℕ, ◌≤◌, ltb, length}
use Rattle.limits.specs.Limits.{capacity, most_calls}
use Rattle.call_types.specs.declared.Call.{Call}
use Rattle.call_types.specs.declared.Call.TheVariants.{Sent, Accept, Observe, Advance, Idle}
use Rattle.ranges.specs.Ranges.{in_range}
use Rattle.monitor_model.specs.Plain.{refusal, sent_refusal}
use Rattle.ledger_state.specs.Refusal.{first_refusal}
use Rattle.ledger_steps.specs.Refusals.{earlier}
use Rattle.link_steps.specs.Steps.{LinkStand, refuses, kept_if}
use Rattle.link_history.specs.Fresh.{Watching, alone, watching}
use Rattle.link_history.specs.Shows.{calls_in, awaits_from, LedgerShows}
use Rattle.link_history.specs.Monitor.{monitor_from, WatchShows}

-- 4 does not hold of the ledger: fewer than 4,294,967,295 calls were served. No count gets to 2^63 before that, and no sum to 2^126
abbrev pub room_from : List Call → Bool
room_from h = ltb (calls_in h) most_calls

-- the ledger's refusal of `sent` and `accept`: 4
abbrev pub ledger_refuses : List Call → ℕ
ledger_refuses h = first_refusal true true true (room_from h) true true

-- the monitor's refusal of `sent` at a time: 6, 4 and 3
abbrev pub monitor_refuses_sent : Watching → List Call → ℕ → ℕ
monitor_refuses_sent alone h time = 0
monitor_refuses_sent (watching threshold timeout) h time = sent_refusal (monitor_from threshold timeout h) time

-- and of its other calls: 4
abbrev pub monitor_refuses : Watching → List Call → ℕ
monitor_refuses alone h = 0
monitor_refuses (watching threshold timeout) h = refusal (monitor_from threshold timeout h)

-- the number of a call's refusal, 0 where it is served: the first in table order
abbrev pub refuses_from : Watching → List Call → Call → ℕ
refuses_from v h (Sent s) = earlier (ledger_refuses h) (monitor_refuses_sent v h s.packet.time)
refuses_from v h (Accept a) = earlier (ledger_refuses h) (monitor_refuses v h)
refuses_from v h (Observe o) = first_refusal true (in_range o) true (room_from h) (awaits_from h o.key) true
refuses_from v h (Advance t) = monitor_refuses v h
refuses_from v h Idle = monitor_refuses v h

-- of the calls that were made, newest first, those that are served
unfoldable pub served_from : Watching → List Call → List Call
served_from v [] = []
served_from v (c ∷ cs) = kept_if (refuses_from v (served_from v cs) c) c (served_from v cs)

-- 4,096 probes are queued
abbrev pub QueueFull : Watching → List Call → Type 0
QueueFull alone h = ⊥
QueueFull (watching threshold timeout) h = capacity ≤ length (monitor_from threshold timeout h).probes

-- ---- the whole

-- WHAT A LINK SHOWS FOLLOWS FROM ITS SERVED CALLS h: the ledger's counts and answers, the monitor, and the refusal of each call to come.
pub record LinkShows (copies : ℕ) (v : Watching) (h : List Call) (k : LinkStand) : Type 0 where
  pub ledger : LedgerShows copies h k
  pub monitor : WatchShows v h k.link.watch k.queue
  pub refusals : (c : Call) → refuses k c ≡ refuses_from v h c
