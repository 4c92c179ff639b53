-- What a link shows after any calls, with the monitor, without it and of the monitor alone: by the plain lists of what each part was served.
-- Assumes nothing.
use Rattle.monitor.specs.declared.Monitor.{Monitor}
use Rattle.std.specs.Prelude.{◌≡◌, List, [], ◌∷◌, ℕ, Option, Some, None}
use Rattle.call_types.specs.declared.Call.{Call}
use Rattle.call_types.specs.declared.Call.TheVariants.{Sent, Accept, Observe, Advance, Idle}
use Rattle.probe_queue.specs.declared.QueuedProbe.{QueuedProbe}
use Rattle.monitor_model.specs.Plain.{Plain, new, refusal, sent_refusal}
use Rattle.monitor_model.specs.Playing as monitor
use Rattle.ledger_steps.specs.Refusals.{earlier}
use Rattle.link_steps.specs.Steps.{LinkStand}
use Rattle.link_history.specs.Fresh.{Watching, Fits}
use Rattle.link_history.specs.Fresh as making
use Rattle.link_history.specs.Shows.{LedgerShows}
use Rattle.link_history.specs.Monitor.{MonitorShows}
use Rattle.link_history.specs.Link.{ledger_refuses, refuses_from}
use Rattle.link_mixed_history.specs.Mixed.{MixedCall, watched, plain, alone, unwatched, number_of}

-- the plain monitor after the calls that it was served
unfoldable pub plain_from : (threshold timeout : ℕ) → List monitor.Call → Plain
plain_from threshold timeout [] = new threshold timeout
plain_from threshold timeout (c ∷ ops) = (monitor.play_plain c (plain_from threshold timeout ops)).plain

-- the monitor and its queue show it; a link made without a monitor has none
abbrev pub PlainShows : Watching → List monitor.Call → Option Monitor → List QueuedProbe → Type 0
PlainShows making.alone ops None queue = Unit
PlainShows making.alone ops (Some m) queue = ⊥
PlainShows (making.watching threshold timeout) ops None queue = ⊥
PlainShows (making.watching threshold timeout) ops (Some m) queue = MonitorShows m queue (plain_from threshold timeout ops)

-- the monitor's refusal of `sent` at a time: 6, 4 and 3; none without a monitor
abbrev pub plain_refuses_sent : Watching → List monitor.Call → ℕ → ℕ
plain_refuses_sent making.alone ops time = 0
plain_refuses_sent (making.watching threshold timeout) ops time = sent_refusal (plain_from threshold timeout ops) time

-- and of its other calls: 4
abbrev pub plain_refuses : Watching → List monitor.Call → ℕ
plain_refuses making.alone ops = 0
plain_refuses (making.watching threshold timeout) ops = refusal (plain_from threshold timeout ops)

-- of a call of the monitor alone
abbrev pub alone_refuses : Watching → List monitor.Call → monitor.Call → ℕ
alone_refuses making.alone ops c = 0
alone_refuses (making.watching threshold timeout) ops c = (monitor.play_plain c (plain_from threshold timeout ops)).number

-- the number of a call to come, by what the ledger (h) and the monitor (ops) were served: with the monitor the first of both in table order
abbrev pub number_from : Watching → List Call → List monitor.Call → MixedCall → ℕ
number_from v h ops (watched (Sent s)) = earlier (ledger_refuses h) (plain_refuses_sent v ops s.packet.time)
number_from v h ops (watched (Accept a)) = earlier (ledger_refuses h) (plain_refuses v ops)
number_from v h ops (watched (Observe o)) = refuses_from making.alone h (Observe o)
number_from v h ops (watched (Advance t)) = plain_refuses v ops
number_from v h ops (watched Idle) = plain_refuses v ops
number_from v h ops (plain c) = refuses_from making.alone h c
number_from v h ops (alone c) = alone_refuses v ops c

-- WHAT A LINK SHOWS FOLLOWS FROM WHAT ITS PARTS WERE SERVED: the ledger's counts and answers, the monitor, and the refusal of each call to come.
pub record MixedShows (copies : ℕ) (v : Watching) (h : List Call) (ops : List monitor.Call) (k : LinkStand) : Type 0 where
  pub ledger : LedgerShows copies h (unwatched k)
  pub monitor : PlainShows v ops k.link.watch k.queue
  pub numbers : (c : MixedCall) → number_of k c ≡ number_from v h ops c

-- the numbers of a call fit their types
abbrev pub MixedFits : MixedCall → Type 0
MixedFits (watched c) = Fits c
MixedFits (plain c) = Fits c
MixedFits (alone c) = Unit {0}

-- of all of them
unfoldable pub AllMixedFit : List MixedCall → Type 0
AllMixedFit [] = Unit {0}
AllMixedFit (c ∷ cs) = MixedFits c × AllMixedFit cs
