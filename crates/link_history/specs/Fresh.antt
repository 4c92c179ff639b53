-- A link as the code makes it fresh, over any rooms of the right size, whatever they held; and calls whose numbers fit their types.
-- Assumes nothing.
use Rattle.monitor.specs.declared.Monitor.{Monitor}
use Rattle.std.specs.Prelude.{◌≡◌, List, [], ◌∷◌, ℕ, ◌^◌, ◌<◌, length, Option, Some, None}
use Rattle.limits.specs.Limits.{capacity}
use Rattle.call_types.specs.declared.Call.{Call}
use Rattle.call_types.specs.declared.Call.TheVariants.{Sent, Accept, Observe, Advance, Idle}
use Rattle.probe_queue.specs.declared.QueuedProbe.{QueuedProbe}
use Rattle.monitor.specs.Operations.{fresh}
use Rattle.ledger_state.specs.State.{fresh_ledger, hash_words}
use Rattle.ledger_steps.specs.Rooms.{Rooms, LedgerStand}
use Rattle.reply_history.specs.Fits.{CallFits}
use Rattle.reply_history.specs.Stands.{RoomsFit}
use Rattle.observe_history.specs.FollowUps.{QualityFits}
use Rattle.link_steps.specs.Steps.{LinkStand}

-- ---- how a link is made

-- without a monitor, or with one of this threshold and timeout
pub data Watching : Type 0 where
  alone : Watching
  watching : (threshold timeout : ℕ) → Watching

-- the copies, the words of the hash, the monitor, and the rooms that the link is lent
pub record Making : Type 0 where
  pub copies : ℕ
  pub secret : List ℕ
  pub monitor : Watching
  pub rooms : Rooms
  pub queue : List QueuedProbe

-- the room of the queue has the right size; without a monitor it is not looked at
abbrev pub QueueFits : Watching → List QueuedProbe → Type 0
QueueFits alone queue = Unit
QueueFits (watching threshold timeout) queue = length queue ≡ capacity

-- the copies fit their type and the rooms have the right size; what stands in them is of no account
pub record MakingFits (m : Making) : Type 0 where
  pub copies_in : m.copies < 2 ^ 16
  pub rooms_fit : RoomsFit capacity m.rooms
  pub queue-fits : QueueFits m.monitor m.queue

-- ---- the fresh link: what `fresh` of crate ledger_state and `new` of crate monitor hand back

-- the monitor, or none
abbrev pub fresh_watch : Watching → Option Monitor
fresh_watch alone = None
fresh_watch (watching threshold timeout) = Some (fresh threshold timeout)

-- the ledger and the monitor, with the rooms as they are
abbrev pub fresh_link : Making → LinkStand
fresh_link m = record { link = record { ledger = fresh_ledger m.copies m.secret; watch = fresh_watch m.monitor }; rooms = m.rooms; queue = m.queue }

-- the words of its hash
abbrev pub words_in : Making → List ℕ
words_in m = hash_words (fresh_ledger m.copies m.secret)

-- the ledger of a link with its rooms, beside its monitor
abbrev pub stand_of : LinkStand → LedgerStand
stand_of k = record { ledger = k.link.ledger; rooms = k.rooms }

-- ---- calls whose numbers fit their types

-- the estimates of an observation
abbrev pub EstimatesFit : Call → Type 0
EstimatesFit (Sent s) = Unit
EstimatesFit (Accept a) = Unit
EstimatesFit (Observe o) = QualityFits o.quality
EstimatesFit (Advance t) = Unit
EstimatesFit Idle = Unit

-- a call
abbrev pub Fits : Call → Type 0
Fits c = CallFits c × EstimatesFit c

-- all of them
unfoldable pub AllFits : List Call → Type 0
AllFits [] = Unit
AllFits (c ∷ cs) = Fits c × AllFits cs
