-- The line `state` of a report: state and consecutive losses of the plain monitor (crate monitor_model) after the first n records, and the same
-- from a room of fronts. Assumes nothing.
use Rattle.call_types.specs.declared.SentProbe.{SentProbe}
use Rattle.std.specs.Prelude.{Bool, cond, List, ℕ, zero, suc, ◌+◌, ◌-◌, eqb, leb, ltb, Option, Some, None}
use Rattle.monitor.specs.declared.State.{State}
use Rattle.monitor.specs.declared.State.TheVariants as state
use Rattle.monitor.specs.declared.Summary.{Summary}
use Rattle.monitor.specs.States.{most_losses}
use Rattle.report.specs.declared.figures.Session.{Session}
use Rattle.report.specs.declared.figures.Session.TheVariants as session
use Rattle.report.specs.declared.figures.Session.TheVariants.{Idle, Active, Failed}
use Rattle.recount_queue.specs.declared.Move.{Move}
use Rattle.recount_queue.specs.declared.Move.TheVariants.{Sends, Hears, Advances, Halts, Rests}
use Rattle.recount_queue.specs.Moves.{queued_at}
use Rattle.recount_queue.specs.Track.{plain_in}
use Rattle.recount_monitor.specs.Fronts.{front_at, transmits_in, fronts_to}

-- "state is `none` (losses 0), `idle`, `active` or `failed`": as `session_by` of link_figures, whose crate stands on the ledger
abbrev pub state_by : State → ℕ → Session
state_by state.Idle losses = Idle losses
state_by state.Active losses = Active losses
state_by state.Failed losses = Failed losses

-- of a monitor's summary
abbrev pub shown : Summary → Session
shown s = state_by s.state s.consecutive_losses

module _ (threshold timeout : ℕ) (moves : ℕ → Move) where
  -- WHAT IS SHOWN after n records: none where there is no monitor, and otherwise the plain monitor's
  unfoldable pub session_in : ℕ → Session
  session_in n = cond (eqb threshold 0) session.None (shown (plain_in threshold timeout moves n).summary)

  -- what is left in the room of fronts: without a monitor nothing is put into it
  unfoldable pub fronts_after : List ℕ → ℕ → List ℕ
  fronts_after fronts n = cond (eqb threshold 0) fronts (fronts_to timeout moves fronts n)

-- ---- the same by the fronts

-- one loss more, saturating
abbrev pub loss_more : ℕ → ℕ
loss_more losses = cond (ltb losses most_losses) (losses + 1) most_losses

-- a probe is lost: failed at the threshold
abbrev pub lose_one : ℕ → Session → Session
lose_one threshold session.None = session.None
lose_one threshold (Idle n) = cond (leb threshold (loss_more n)) (Failed (loss_more n)) (Idle (loss_more n))
lose_one threshold (Active n) = cond (leb threshold (loss_more n)) (Failed (loss_more n)) (Active (loss_more n))
lose_one threshold (Failed n) = Failed (loss_more n)

-- where there is one
abbrev pub lose_if : ℕ → Option SentProbe → Session → Session
lose_if threshold None x = x
lose_if threshold (Some s) x = lose_one threshold x

-- the probes of k records from a on are lost
unfoldable pub lost_in : ℕ → (ℕ → Option SentProbe) → Session → ℕ → ℕ → Session
lost_in threshold probe x a zero = x
lost_in threshold probe x a (suc k) = lost_in threshold probe (lose_if threshold (probe a) x) (suc a) k

-- a reply, heard while transmitting
abbrev pub heard : Bool → Session → Session
heard on x = cond on (Active 0) x

-- an idle: losses are kept in Idle
abbrev pub halted : Session → Session
halted session.None = session.None
halted (Idle n) = Idle n
halted (Active n) = Idle 0
halted (Failed n) = Idle 0

module _ (threshold timeout : ℕ) (moves : ℕ → Move) (fronts : List ℕ) where
  -- after record n: what an advance passes while transmitting is lost
  abbrev pub line_next : ℕ → Move → Session → Session
  line_next n (Sends s) x = x
  line_next n (Hears q) x = heard (transmits_in moves n) x
  line_next n (Advances t) x = cond (transmits_in moves n) (lost_in threshold (queued_at timeout moves) x (front_at fronts n) (front_at fronts (suc n) - front_at fronts n)) x
  line_next n Halts x = halted x
  line_next n Rests x = x

  -- after n records
  unfoldable pub line_in : ℕ → Session
  line_in zero = Idle 0
  line_in (suc n) = line_next n (moves n) (line_in n)
