-- WHAT IS PRINTED OF A LOG: its report by the plain definitions of crate history, or document 01's line of why it is refused. `report_log_alone` answers and
-- leaves in the buffer what `report_of_log` says; `printed` of log_print says how many bytes of the buffer the program hands to the write.
-- Assumes nothing.
use Rattle.std.specs.Prelude.{Err, Ok, Result}
use mathlib.Core.Path.{◌≡◌, refl, ap, ap₂, ◌∙◌}
use mathlib.Core.Bool.{Bool, true, ◌&&◌, cond}
use mathlib.Core.List.{List}
use Prim.Native.Nat.{ℕ, ◌+◌}
use borrow.Author.Tests.{eq-eqb}
use lib.ListN.{length, take, drop}
use lib.Seq.{take-append_seam}
use Rattle.limits.specs.Limits.{capacity}
use Rattle.probe_queue.specs.declared.QueuedProbe.{QueuedProbe}
use Rattle.ledger_steps.specs.Rooms.{Rooms}
use Rattle.reply_history.specs.Stands.{RoomsFit}
use Rattle.decimal.specs.Writing.{over}
use Rattle.report.specs.Lines.{text_of}
use Rattle.report.specs.Report.{report_room, Outcome, outcome, written}
use Rattle.limits.specs.Numbers.{number_of}
use Rattle.limits.specs.declared.Refusal.{Refusal}
use Rattle.log_whole.specs.declared.Fault.{Fault}
use Rattle.log_whole.specs.declared.Settings.{Settings}
use Rattle.log_whole.specs.Logs.{refusal_of, log_of}
use Rattle.link_report.specs.LogReport.{end_of, refused_with, report_by, fits, report_of_log}
use Rattle.log_settings.specs.Checks.{checked_of, checked_by}
use Rattle.report_history.specs.Bytes.{BytesIn}
use Rattle.report_history.specs.Figures.{report_from}
use Rattle.report_history.proofs.Whole.{report_of_a_good_log}
use Rattle.log_print.specs.Printed.{refusal_line, said, bytes_of, line_in, refused_in, printed_in}
use Rattle.print_history.specs.Printed.{printed_by, printed_of}

-- what an answer and a buffer print, where the answer tells that a text was written
text_printed : (log text buffer after : List ℕ) (a : Result ℕ ℕ) → outcome a after ≡ written text buffer → bytes_of (printed_in log a after) ≡ text
unfolding outcome printed_in
text_printed log text buffer after (Ok n) e =
    let same : n ≡ length text = cc (ap (λ (o : Outcome). o.values) e) in
    ap₂ (λ (k : ℕ) (l : List ℕ). take k l) same (ap (λ (o : Outcome). o.buffer) e) ∙ take-append_seam text (drop (length text) buffer)
text_printed log text buffer after (Err n) e = cc (ap (λ (o : Outcome). o.values) e)

-- and where it tells a refusal
line-printed : (log : List ℕ) (n : ℕ) (buffer after : List ℕ) (a : Result ℕ ℕ) → length buffer ≡ report_room → outcome a after ≡ refused_with n buffer → bytes_of (printed_in log a after) ≡ refusal_line (log_of log)
unfolding outcome printed_in refused_in line_in over
line-printed log n buffer after (Ok m) h e = cc (ap (λ (o : Outcome). o.values) e)
line-printed log n buffer after (Err m) h e =
    let line = refusal_line (log_of log) in
    ap (λ (b : Bool). bytes_of (cond b (line_in line after) (said 0 after))) (eq-eqb (length after) report_room (ap (λ (o : Outcome). length o.buffer) e ∙ h))
    ∙ take-append_seam line (drop (0 + length line) after)

module _
    (log : List ℕ) (typed : BytesIn log) (secret : List ℕ) (queue : List QueuedProbe) (long : length queue ≡ capacity) (rooms : Rooms) (sized : RoomsFit capacity rooms) (buffer : List ℕ) (h : length buffer ≡ report_room)
    (a : Result ℕ ℕ) (after : List ℕ)
  where
    all_fit : fits queue rooms buffer ≡ true
    all_fit =
        λ i. eq-eqb (length queue) capacity long i
        && eq-eqb (length rooms.keys) capacity sized.keys_fit.rows_are i
        && eq-eqb (length rooms.slots) capacity sized.slots_fit.rows_are i
        && eq-eqb (length rooms.probes) capacity sized.probes_fit.rows_are i
        && eq-eqb (length rooms.offsets) capacity sized.offsets_fit i
        && eq-eqb (length rooms.links) capacity sized.links_fit.rows_are i
        && eq-eqb (length buffer) report_room h i

    -- THE THEOREM: where the answer and the buffer are what `report_of_log` says, the bytes that `printed` says are `printed_of` of the log's bytes
    pub what_is_printed : outcome a after ≡ (report_of_log log secret queue rooms buffer).outcome → bytes_of (printed_in log a after) ≡ printed_of log
    unfolding report_of_log
    what_is_printed e = by (log_of log) refl
      where
        refused : (l : Result Settings Fault) (r : Refusal) → log_of log ≡ l → checked_of l ≡ Err r → bytes_of (printed_in log a after) ≡ refusal_line l
        refused l r g c =
            line-printed log (number_of r) buffer after a h
            (e ∙ ap₂ (λ (b : Bool) (x : Result Settings Fault). (report_by (checked_by b x) (end_of log secret queue rooms) queue rooms buffer).outcome) all_fit g ∙ ap (λ (x : Result Settings Refusal). (report_by x (end_of log secret queue rooms) queue rooms buffer).outcome) c)
            ∙ ap refusal_line g

        by : (l : Result Settings Fault) → log_of log ≡ l → bytes_of (printed_in log a after) ≡ printed_by log l
        by (Err f) g = refused (Err f) (refusal_of f) g refl
        by (Ok s) g = text_printed log (text_of (report_from log s)) buffer after a (e ∙ report_of_a_good_log log typed s g secret queue long rooms sized buffer all_fit)
