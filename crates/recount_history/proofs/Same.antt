-- THE SECOND COUNT OF A LOG IS THE REPORT OF `linkreport`: each number and state, records turned away included, for every log that the reader
-- accepts, over any rooms of the right size and any words of the hash. Through the definitions of crate history. Assumes nothing.
use Rattle.std.specs.Prelude.{Err, Ok, Result}
use mathlib.Core.Path.{◌≡◌, refl, sym, ap, subst, ◌∙◌}
use mathlib.Core.Bool.{Bool, true, not}
use mathlib.Core.List.{List}
use Prim.Native.Nat.{ℕ, zero, suc}
use native.Mathlib.Omega.{arith}
use lib.ListN.{length}
use borrow.Author.Tests.{ne_eqb}
use Rattle.limits.specs.Limits.{capacity}
use Rattle.probe_queue.specs.declared.QueuedProbe.{QueuedProbe}
use Rattle.ledger_steps.specs.Rooms.{Rooms}
use Rattle.reply_history.specs.Stands.{RoomsFit}
use Rattle.log_whole.specs.declared.Settings.{Settings}
use Rattle.log_whole.specs.declared.Fault.{Fault}
use Rattle.log_whole.specs.Logs.{log_of}
use Rattle.report.specs.declared.figures.Figures.{Figures}
use Rattle.report.specs.Lines.{text_of}
use Rattle.report.specs.Report.{written}
use Rattle.link_figures.specs.Figures.{figures_of}
use Rattle.log_settings.specs.Checks as checks
use Rattle.link_report.specs.LogReport as first
use Rattle.link_report.specs.LogReport.{end_of, fits, report_of_log}
use Rattle.report_history.specs.Bytes.{BytesIn}
use Rattle.report_history.specs.Figures.{watching_by, report_from}
use Rattle.report_history.proofs.Whole.{figures_of_a_good_log}
use Rattle.recount_marks.specs.Marks.{Marked}
use Rattle.recount_marks.proofs.Laws.{marked_to_lem}
use Rattle.recount_lines.specs.Lines.{loss_at, replies_at, probes_at, order_at}
use Rattle.recount.specs.Figures.{followup_at, direct_at, figures_by, watched_by, figures_at}
use Rattle.recount.specs.Recount as second
use Rattle.recount.specs.Recount.{most_records, rooms_fit, marks_of, recount_of_log}
use Rattle.recount.proofs.Laws.{rooms_are}
use Rattle.recount_history.specs.Settings.{watched_in}
use Rattle.recount_history.proofs.Whole.{few_records, played-line, loss-line, replies-line, probes-line, order-line, evicted-line}
use Rattle.recount_history.proofs.Follow.{followup-line}
use Rattle.recount_history.proofs.Direct.{direct-line, missing-line}
use Rattle.recount_history.proofs.Trips.{rtt_line}
use Rattle.recount_history.proofs.Monitor.{session-line}

-- ---- the eleven lines

module _ (log : List ℕ) (s : Settings) (g : log_of log ≡ Ok s) (marks : List ℕ)
    (marked : Marked (watched_in (watching_by s.threshold s.timeout)) s.timeout log marks s.count) where
  lines_say : report_from log s ≡ figures_at s log marks
  unfolding figures_by followup_at direct_at loss_at replies_at probes_at order_at
  lines_say = λ i. record {
    played = played-line log s g marks marked i;
    loss = loss-line log s g marks marked i;
    replies = replies-line log s g marks marked i;
    probes = probes-line log s g marks marked i;
    order = order-line log s g marks marked i;
    followup = followup-line log s g marks marked i;
    direct = direct-line log s g marks marked i;
    missing = missing-line log s g marks marked i;
    session = session-line log s g marks marked i;
    rtt = rtt_line log s g marks marked i;
    evicted = evicted-line log s g marks marked i;
  }

-- ---- the marks that the count makes

watched_is : (n t : ℕ) → watched_by n ≡ watched_in (watching_by n t)
watched_is zero t = refl
watched_is (suc n) t = ap not (ne_eqb (suc n) 0 (λ e. omega arith))

module _ (log : List ℕ) (h : BytesIn log) (s : Settings) (g : log_of log ≡ Ok s) (marks : List ℕ) (room : length marks ≡ most_records) where
  marked : Marked (watched_in (watching_by s.threshold s.timeout)) s.timeout log (marks_of s log marks) s.count
  marked =
      subst (λ (b : Bool). Marked b s.timeout log (marks_of s log marks) s.count) (watched_is s.threshold s.timeout)
      (marked_to_lem (watched_by s.threshold) s.timeout log marks s.count (omega (arith, few_records log s g, room)))

  -- WHAT THE SECOND COUNT TELLS IS WHAT THE SERVED CALLS CALL FOR
  pub count_is_history : figures_at s log (marks_of s log marks) ≡ report_from log s
  count_is_history = sym (lines_say log s g (marks_of s log marks) marked)

  module _ (secret : List ℕ) (queue : List QueuedProbe) (long : length queue ≡ capacity) (rooms : Rooms) (sized : RoomsFit capacity rooms) where
    -- what `linkreport` reports
    abbrev pub reported : Figures
    reported = figures_of (end_of log secret queue rooms s).standing.link s.count (end_of log secret queue rooms s).turned

    -- THE THEOREM: EACH NUMBER AND STATE OF THE TWO REPORTS IS THE SAME
    pub same_figures : figures_at s log (marks_of s log marks) ≡ reported
    same_figures = count_is_history ∙ sym (figures_of_a_good_log log h s g secret queue long rooms sized)

-- ---- the calls: both answer the same and leave the same in the buffer, for every log, accepted or not

module _ (log : List ℕ) (h : BytesIn log) (marks fronts buffer : List ℕ) (fit : rooms_fit (length marks) (length fronts) (length buffer) ≡ true)
    (secret : List ℕ) (queue : List QueuedProbe) (long : length queue ≡ capacity) (rooms : Rooms) (sized : RoomsFit capacity rooms) (fit' : fits queue rooms buffer ≡ true) where
  by_log : (l : Result Settings Fault) → log_of log ≡ l
      → (second.recount_by (second.checked_of l) log marks fronts buffer).outcome ≡ (first.report_by (checks.checked_of l) (end_of log secret queue rooms) queue rooms buffer).outcome
  by_log (Err f) e = refl
  by_log (Ok s) e =
      ap (λ (f : Figures). written (text_of f) buffer)
      (same_figures log h s e marks (rooms_are (length marks) (length fronts) (length buffer) fit).0 secret queue long rooms sized)

  pub same_outcome : (recount_of_log log marks fronts buffer).outcome ≡ (report_of_log log secret queue rooms buffer).outcome
  unfolding recount_of_log report_of_log
  same_outcome =
      ap (λ (b : Bool). (second.recount_by (second.checked_by b (log_of log)) log marks fronts buffer).outcome) fit
      ∙ by_log (log_of log) refl
      ∙ sym (ap (λ (b : Bool). (first.report_by (checks.checked_by b (log_of log)) (end_of log secret queue rooms) queue rooms buffer).outcome) fit')
