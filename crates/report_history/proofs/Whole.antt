-- WHAT IS PRINTED OF A GOOD LOG IS THE REPORT OF ITS SERVED CALLS, whatever the bytes of the log are and whatever the rooms held.
-- Assumes nothing.
use Rattle.std.specs.Prelude.{Ok}
use mathlib.Core.Path.{◌≡◌, subst}
use mathlib.Core.Bool.{true}
use mathlib.Core.List.{List}
use Prim.Native.Nat.{ℕ, zero, suc, ◌^◌, ◌<◌}
use lib.ListN.{length}
use Rattle.limits.specs.Limits.{capacity}
use Rattle.probe_queue.specs.declared.QueuedProbe.{QueuedProbe}
use Rattle.ledger_steps.specs.Rooms.{Rooms}
use Rattle.reply_history.specs.Stands.{RoomsFit}
use Rattle.link_history.specs.Fresh.{QueueFits, MakingFits}
use Rattle.log_whole.specs.declared.Settings.{Settings}
use Rattle.log_whole.specs.Logs.{log_of}
use Rattle.report.specs.Lines.{text_of}
use Rattle.report.specs.Report.{written}
use Rattle.link_figures.specs.Figures.{figures_of}
use Rattle.link_report.specs.LogReport.{end_of, fits, report_of_log}
use Rattle.report_history.specs.Bytes.{BytesIn}
use Rattle.report_history.specs.Figures.{watching_by, making_by, report_from}
use Rattle.report_history.proofs.Bytes.{log_fits, good_settings, copies_in}
use Rattle.report_history.proofs.Theorem.{figures_are_history, buffer_is_history}

queue-fits : (n t : ℕ) (queue : List QueuedProbe) → length queue ≡ capacity → QueueFits (watching_by n t) queue
queue-fits zero t queue long = tt
queue-fits (suc n) t queue long = long

module _ (log : List ℕ) (h : BytesIn log) (s : Settings) (g : log_of log ≡ Ok s) where
  module _ (secret : List ℕ) (queue : List QueuedProbe) (long : length queue ≡ capacity) (rooms : Rooms) (sized : RoomsFit capacity rooms) where
    making_fits : MakingFits (making_by s secret queue rooms)
    making_fits = record {
      copies_in = subst (λ (x : Settings). x.copies < 2 ^ 16) (good_settings log s g) (copies_in log h);
      rooms_fit = sized;
      queue-fits = queue-fits s.threshold s.timeout queue long;
    }

    -- EACH NUMBER AND STATE of the report that `linkreport` prints
    pub figures_of_a_good_log : figures_of (end_of log secret queue rooms s).standing.link s.count (end_of log secret queue rooms s).turned ≡ report_from log s
    figures_of_a_good_log = figures_are_history log s secret queue rooms making_fits (log_fits log h s.count)

    -- THE THEOREM
    pub report_of_a_good_log : (buffer : List ℕ) → fits queue rooms buffer ≡ true → (report_of_log log secret queue rooms buffer).outcome ≡ written (text_of (report_from log s)) buffer
    report_of_a_good_log buffer f = buffer_is_history log s secret queue rooms making_fits (log_fits log h s.count) buffer f g
