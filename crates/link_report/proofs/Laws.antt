-- From what the parts of the report's call leave to the report of the log. Assumes nothing.
use Rattle.std.specs.Prelude.{Option, Err, Ok, Result}
use Rattle.monitor.specs.declared.Monitor.{Monitor}
use mathlib.Core.Path.{◌≡◌, refl, sym, ap, ◌∙◌}
use mathlib.Core.Bool.{Bool, true, false, ◌&&◌}
use mathlib.Core.List.{List}
use Prim.Native.Nat.{ℕ, zero, suc}
use lib.Dec.{eqb}
use lib.ListN.{length}
use Rattle.limits.specs.Limits.{capacity}
use Rattle.probe_queue.specs.declared.QueuedProbe.{QueuedProbe}
use Rattle.ledger_state.specs.State.{fresh_ledger}
use Rattle.ledger_steps.specs.Rooms.{Rooms}
use Rattle.link_steps.specs.declared.Link.{Link}
use Rattle.log_whole.specs.declared.Settings.{Settings}
use Rattle.log_whole.specs.declared.Fault.{Fault}
use Rattle.log_whole.specs.Logs.{log_of}
use Rattle.log_play_parts.specs.Parts.{rooms_of}
use Rattle.log_play.specs.declared.Tally.{Tally}
use Rattle.log_play.specs.Tally.{link_at, standing_of, Tallied, tally_of, tallied}
use Rattle.report.specs.Report.{Outcome, outcome, pick_outcome, written, wrong, report_of, report_room}
use Rattle.link_figures.specs.Figures.{figures_of}
use Rattle.limits.specs.Numbers.{number_of}
use Rattle.limits.specs.declared.Refusal.{Refusal}
use Rattle.log_settings.specs.Checks.{checked_of, checked_by, settings_by}
use Rattle.log_settings.specs.Fresh.{watch_by, link_by}
use Rattle.host_ledger.specs.Words.{ledger_at}
use Rattle.link_report.specs.LogReport.{start_by, end_of, played_text, outcome_by, Reported, reported, report_by, fits, report_of_log, empty_queue}

-- the answer by the check
pub refused-outcome : (c : Result Settings Refusal) (r : Refusal) (n : ℕ) (link : Link) (turned : ℕ) (buffer : List ℕ) → c ≡ Err r → n ≡ number_of r → outcome (Err n) buffer ≡ outcome_by c link turned buffer
unfolding outcome
refused-outcome c r n link turned buffer e h = ap (λ (m : ℕ). outcome (Err m) buffer) h ∙ sym (ap (λ (x : Result Settings Refusal). outcome_by x link turned buffer) e)

pub played-outcome : (c : Result Settings Refusal) (s : Settings) (link : Link) (turned : ℕ) (buffer : List ℕ) (o : Outcome) → c ≡ Ok s → o ≡ report_of buffer (figures_of link s.count turned) → o ≡ outcome_by c link turned buffer
played-outcome c s link turned buffer o e r = r ∙ sym (ap (λ (x : Result Settings Refusal). outcome_by x link turned buffer) e)

-- the buffer of rooms that fit
and_right : (a b : Bool) → a && b ≡ true → b ≡ true
and_right true b e = e
and_right false true e = refl
and_right false false e = e

buffer_fits : (queue : List QueuedProbe) (r : Rooms) (buffer : List ℕ) → true ≡ fits queue r buffer → eqb (length buffer) report_room ≡ true
buffer_fits queue r buffer y =
    and_right
    (eqb (length queue) capacity && eqb (length r.keys) capacity && eqb (length r.slots) capacity && eqb (length r.probes) capacity && eqb (length r.offsets) capacity && eqb (length r.links) capacity)
    (eqb (length buffer) report_room)
    (sym y)

module _ (log secret : List ℕ) (queue : List QueuedProbe) (rooms : Rooms) (buffer : List ℕ) where
  -- what is left after the records that the check lets through, and the answer, are the report by the check
  reports_by : (fit : Bool) → fit ≡ fits queue rooms buffer → (l : Result Settings Fault) (t : Tallied) (o : Outcome)
      → t ≡ tallied log (start_by (settings_by (checked_by fit l)) secret queue rooms) (settings_by (checked_by fit l)).count
      → o ≡ outcome_by (checked_by fit l) t.standing.link t.turned buffer
      → reported o t.standing.queue t.standing.rooms ≡ report_by (checked_by fit l) (end_of log secret queue rooms) queue rooms buffer
  unfolding tallied end_of report_of
  reports_by false f l t o e a = λ j. reported (a j) (e j).standing.queue (e j).standing.rooms
  reports_by true f (Err b) t o e a = λ j. reported (a j) (e j).standing.queue (e j).standing.rooms
  reports_by true f (Ok s) t o e a =
      let text : o ≡ written (played_text s t) buffer = a ∙ ap (λ (b : Bool). pick_outcome b (written (played_text s t) buffer) (wrong buffer)) (buffer_fits queue rooms buffer f) in
      ap (λ (x : Outcome). reported x t.standing.queue t.standing.rooms) text
      ∙ ap (λ (x : Tallied). reported (written (played_text s x) buffer) x.standing.queue x.standing.rooms) e

-- the call, in the order of its parts
pub reports : (log secret : List ℕ) (keys slots probes : List (List ℕ)) (offsets : List ℕ) (links : List (List ℕ)) (queue : List QueuedProbe) (text : List ℕ)
    (fit : Bool) (found : Result Settings Fault) (checked : Result Settings Refusal) (settings : Settings) (start : Option Monitor) (ledger : List ℕ) (count : ℕ)
    (tally : Tally) (ledger' : List ℕ) (keys' slots' probes' : List (List ℕ)) (offsets' : List ℕ) (links' : List (List ℕ)) (queue' : List QueuedProbe) (r : Result ℕ ℕ) (text' : List ℕ)
    → fit ≡ fits queue (rooms_of keys slots probes offsets links) text → found ≡ log_of log → checked ≡ checked_by fit found → settings ≡ settings_by checked
    → start ≡ watch_by settings.threshold settings.timeout → ledger_at ledger ≡ fresh_ledger settings.copies secret → count ≡ settings.count
    → tally_of (standing_of (link_at ledger' tally.watch) queue' (rooms_of keys' slots' probes' offsets' links')) tally.turned ≡ tallied log (tally_of (standing_of (link_at ledger start) queue (rooms_of keys slots probes offsets links)) 0) count
    → outcome r text' ≡ outcome_by checked (link_at ledger' tally.watch) tally.turned text
    → reported (outcome r text') queue' (rooms_of keys' slots' probes' offsets' links') ≡ report_of_log log secret queue (rooms_of keys slots probes offsets links) text
unfolding report_of_log
reports log secret keys slots probes offsets links queue text fit found checked settings start ledger count tally ledger' keys' slots' probes' offsets' links' queue' r text' ef el ec es ew eb en et eo =
    let rooms = rooms_of keys slots probes offsets links in
    let link = link_at ledger' tally.watch in
    let t = tally_of (standing_of link queue' (rooms_of keys' slots' probes' offsets' links')) tally.turned in
    let set : settings ≡ settings_by (checked_by fit found) = es ∙ ap settings_by ec in
    let begun : link_at ledger start ≡ link_by (settings_by (checked_by fit found)) secret = (λ j. record { ledger = eb j; watch = ew j }) ∙ ap (λ (s : Settings). link_by s secret) set in
    let many : count ≡ (settings_by (checked_by fit found)).count = en ∙ ap (λ (s : Settings). s.count) set in
    let left : t ≡ tallied log (start_by (settings_by (checked_by fit found)) secret queue rooms) (settings_by (checked_by fit found)).count = et ∙ (λ j. tallied log (tally_of (standing_of (begun j) queue rooms) 0) (many j)) in
    let told : outcome r text' ≡ outcome_by (checked_by fit found) link tally.turned text = eo ∙ ap (λ (c : Result Settings Refusal). outcome_by c link tally.turned text) ec in
    reports_by log secret queue rooms text fit ef found t (outcome r text') left told
    ∙ (λ j. report_by (checked_by (ef j) (el j)) (end_of log secret queue rooms) queue rooms text)

-- with a queue of its own
pub reports_alone : (log secret : List ℕ) (keys slots probes : List (List ℕ)) (offsets : List ℕ) (links : List (List ℕ)) (text : List ℕ)
    (queue : List QueuedProbe) (r : Result ℕ ℕ) (keys' slots' probes' : List (List ℕ)) (offsets' : List ℕ) (links' : List (List ℕ)) (queue' : List QueuedProbe) (text' : List ℕ) → queue ≡ empty_queue
    → reported (outcome r text') queue' (rooms_of keys' slots' probes' offsets' links') ≡ report_of_log log secret queue (rooms_of keys slots probes offsets links) text
    → (outcome r text' ≡ (report_of_log log secret empty_queue (rooms_of keys slots probes offsets links) text).outcome) × (rooms_of keys' slots' probes' offsets' links' ≡ (report_of_log log secret empty_queue (rooms_of keys slots probes offsets links) text).rooms)
reports_alone log secret keys slots probes offsets links text queue r keys' slots' probes' offsets' links' queue' text' eq e =
    let k = e ∙ ap (λ (q : List QueuedProbe). report_of_log log secret q (rooms_of keys slots probes offsets links) text) eq in
    (ap (λ (x : Reported). x.outcome) k, ap (λ (x : Reported). x.rooms) k)
