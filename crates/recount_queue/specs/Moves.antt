-- What a marked record is to the monitor. Assumes nothing.
use Rattle.call_types.specs.declared.SentProbe.{SentProbe}
use Rattle.std.specs.Prelude.{◌||◌, cond, List, ℕ, eqb, ltb, get_or, Option, Some, None}
use Rattle.call_types.specs.declared.Call.{Call}
use Rattle.call_types.specs.declared.Call.TheVariants.{Sent, Accept, Observe, Advance, Idle}
use Rattle.log_whole.specs.Logs.{call_at}
use Rattle.recount_queue.specs.declared.Move.{Move}
use Rattle.recount_queue.specs.declared.Move.TheVariants.{Sends, Hears, Advances, Halts, Rests}

-- a record by its mark: a probe that is served (1), a unique reply (4 or 5), an advance, an idle; anything else is nothing to it
abbrev pub move_by : ℕ → Option Call → Move
move_by mark None = Rests
move_by mark (Some (Sent s)) = cond (eqb mark 1) (Sends s) Rests
move_by mark (Some (Accept a)) = cond (eqb mark 4 || eqb mark 5) (Hears a.key.sender) Rests
move_by mark (Some (Observe o)) = Rests
move_by mark (Some (Advance t)) = Advances t
move_by mark (Some Idle) = Halts

-- record j
unfoldable pub move_at : List ℕ → List ℕ → ℕ → Move
move_at log marks j = move_by (get_or marks j 0) (call_at log j)

-- the probe that is sent, if one is
abbrev pub sent_by : Move → Option SentProbe
sent_by (Sends s) = Some s
sent_by (Hears q) = None
sent_by (Advances t) = None
sent_by Halts = None
sent_by Rests = None

-- it is queued where the timeout is above 0
abbrev pub queued_by : ℕ → Move → Option SentProbe
queued_by timeout m = cond (ltb 0 timeout) (sent_by m) None

-- by record i
abbrev pub queued_at : ℕ → (ℕ → Move) → ℕ → Option SentProbe
queued_at timeout moves i = queued_by timeout (moves i)
