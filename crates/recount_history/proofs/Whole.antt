-- A GOOD LOG: it has at most 682 records, so that all before is what the last 4,096 are; and the lines of its report that the marks give.
-- Assumes nothing.
use Rattle.std.specs.Prelude.{Option, Some, None, Ok}
use mathlib.Core.Path.{◌≡◌, refl, sym, ap, ◌∙◌}
use mathlib.Core.Bool.{Bool, true, false, cond}
use mathlib.Core.List.{List, ◌∷◌}
use Prim.Native.Nat.{ℕ, zero, suc, ◌+◌, ◌-◌, ◌*◌, ◌≤◌, ◌<◌}
use native.Mathlib.Omega.{arith}
use lib.Dec.{eqb}
use lib.ListN.{length}
use Rattle.limits.specs.Limits.{capacity}
use Rattle.call_types.specs.declared.Call.{Call}
use Rattle.history.specs.Counting.{tally}
use Rattle.history.specs.Ledger.{Event, copies_of, duplicate, unknown, unique, is_sent, is_class, is_answered, is_additional, is_late, is_satisfying, is_independent, is_reordered, CallTest, count, events, thousandths}
use Rattle.log_whole.specs.declared.Settings.{Settings}
use Rattle.log_whole.specs.Logs.{call_at, log_of}
use Rattle.record_parts.specs.Parts.{call_of}
use Rattle.log_whole.proofs.Accepted.{accepted_decodes}
use Rattle.link_history.specs.Fresh.{Watching}
use Rattle.link_history.specs.Link.{served_from}
use Rattle.report_history.specs.Figures.{call_then, log_calls, watching_by, figures_from, report_from}
use Rattle.recount_seen.specs.declared.Seen.TheVariants.{Nothing}
use Rattle.recount_seen.specs.Seen.{events_of}
use Rattle.link_history.specs.Shows.{thousandths_from}
use Rattle.link_figures.specs.Figures.{figure_of}
pub use Rattle.recount_marks.proofs.Records.{few_records}
use Rattle.recount_marks.specs.Marks.{call_mark, played_mark, turned_in, Marked}
use Rattle.recount_counts.specs.Tests.{test_by, passing}
use Rattle.recount_lines.specs.Lines.{thousandths_of, loss_by}
use Rattle.recount_history.specs.Settings.{watched_in, Timed}
use Rattle.recount_history.proofs.Few.{evicts-none, remembered_few}
use Rattle.recount_history.proofs.Refusals.{call_kept}
use Rattle.recount_history.proofs.Marked.{served_in, served_few, marks_say}
use Rattle.recount_history.proofs.Counts.{Agree, count_says, sent_agrees, duplicate_agrees, unknown_agrees, unique_agrees, answered_agrees, additional_agrees, late_agrees, satisfying_agrees, independent_agrees, reordered_agrees}

-- ---- every record says a call

one_longer : (log : List ℕ) (n : ℕ) (r : Option Call) (c : Call) → r ≡ Some c → length (call_then r (log_calls log n)) ≡ suc (length (log_calls log n))
one_longer log n r c e = ap (λ (x : Option Call). length (call_then x (log_calls log n))) e

pub all_calls : (log : List ℕ) (s : Settings) → log_of log ≡ Ok s → (n : ℕ) → n ≤ s.count → length (log_calls log n) ≡ n
unfolding log_calls
all_calls log s g zero l = refl
all_calls log s g (suc n) l =
    let d = accepted_decodes log s n g l in
    one_longer log n (call_at log n) (call_of d.0) d.1 ∙ ap suc (all_calls log s g n (omega arith))

-- ---- the records that are turned away

module _ (v : Watching) (t : ℕ) (ok : Timed v t) (log marks : List ℕ) (n : ℕ) (few : n ≤ capacity) (marked : Marked (watched_in v) t log marks n) where
  turned_or_kept : (b : Bool) (c : Call) (h : List Call) (turned : ℕ) → tally b turned + length (cond b h (c ∷ h)) ≡ suc (turned + length h)
  turned_or_kept true c h turned = omega arith
  turned_or_kept false c h turned = omega arith

  one_more : (r : Option Call) (cs : List Call) (turned : ℕ) → length (served_from v cs) < capacity
      → tally (eqb (played_mark (watched_in v) t (events capacity (served_from v cs)) r) 0) turned + length (served_from v (call_then r cs)) ≡ suc (turned + length (served_from v cs))
  unfolding served_from
  one_more None cs turned l = omega arith
  one_more (Some c) cs turned l =
      let mark = call_mark (watched_in v) t (events capacity (served_from v cs)) c in
      ap (λ (h : List Call). tally (eqb mark 0) turned + length h) (call_kept (served_from v cs) l v t ok c)
      ∙ turned_or_kept (eqb mark 0) c (served_from v cs) turned

  pub turned_says : (j : ℕ) → j ≤ n → turned_in marks j + length (served_in v t ok log j) ≡ j
  unfolding turned_in log_calls served_from
  turned_says zero l = refl
  turned_says (suc j) l =
      let e : events_of log marks j ≡ events capacity (served_in v t ok log j) = marks_say v t ok log marks n few marked j (omega arith) in
      ap (λ (m : ℕ). tally (eqb m 0) (turned_in marks j) + length (served_from v (call_then (call_at log j) (log_calls log j)))) (marked j l)
      ∙ ap (λ (es : List Event). tally (eqb (played_mark (watched_in v) t es (call_at log j)) 0) (turned_in marks j) + length (served_from v (call_then (call_at log j) (log_calls log j)))) e
      ∙ one_more (call_at log j) (log_calls log j) (turned_in marks j) (omega (arith, served_few v t ok log j, few))
      ∙ ap suc (turned_says j (omega arith))

-- ---- the lines

thousandths_are : (requested lost : ℕ) → figure_of (thousandths_from (thousandths requested lost)) ≡ thousandths_of requested lost
thousandths_are zero lost = refl
thousandths_are (suc n) lost = refl

pub timed : (n t : ℕ) → Timed (watching_by n t) t
timed zero t = tt
timed (suc n) t = refl

module _ (log : List ℕ) (s : Settings) (g : log_of log ≡ Ok s) (marks : List ℕ) where
  abbrev v : Watching
  v = watching_by s.threshold s.timeout

  abbrev copies : ℕ
  copies = copies_of s.copies

  -- how many records pass a test
  abbrev pub tells : ℕ → ℕ
  tells kind = passing (test_by kind copies) log marks s.count

  module _ (marked : Marked (watched_in v) s.timeout log marks s.count) where
    few : s.count ≤ capacity
    few = omega (arith, few_records log s g)

    abbrev ok : Timed v s.timeout
    ok = timed s.threshold s.timeout

    tells_is : (kind : ℕ) (test : CallTest) → ((es : List Event) → test_by kind copies Nothing es ≡ false) → Agree (watched_in v) s.timeout (test_by kind copies) test
        → count capacity test (served_in v s.timeout ok log s.count) ≡ tells kind
    tells_is kind test z a = sym (count_says v s.timeout ok log marks s.count few marked (test_by kind copies) z test a s.count (omega arith))

    -- "records N turned away N"
    pub played-line : (report_from log s).played ≡ record { records = s.count; turned_away = turned_in marks s.count }
    unfolding figures_from
    played-line =
        let all = all_calls log s g s.count (omega arith) in
        let kept = turned_says v s.timeout ok log marks s.count few marked s.count (omega arith) in
        let turned : length (log_calls log s.count) - length (served_in v s.timeout ok log s.count) ≡ turned_in marks s.count = omega (arith, all, kept) in
        λ i. record { records = s.count; turned_away = turned i }

    -- "requested N unobserved N thousandths N"
    pub loss-line : (report_from log s).loss ≡ loss_by (copies * tells 0) (tells 7)
    unfolding figures_from
    loss-line =
        let a = tells_is 0 is_sent (λ es. refl) (sent_agrees (watched_in v) s.timeout copies) in
        let b = tells_is 7 (is_satisfying capacity copies) (λ es. refl) (satisfying_agrees (watched_in v) s.timeout copies) in
        (λ i. record { requested = copies * a i; unobserved = copies * a i - b i; thousandths = figure_of (thousandths_from (thousandths (copies * a i) (copies * a i - b i))) })
        ∙ (λ i. record { requested = copies * tells 0; unobserved = copies * tells 0 - tells 7; thousandths = thousandths_are (copies * tells 0) (copies * tells 0 - tells 7) i })

    -- "unique N duplicate N unknown N"
    pub replies-line : (report_from log s).replies ≡ record { unique = tells 3; duplicate = tells 1; unknown = tells 2 }
    unfolding figures_from
    replies-line =
        let a = tells_is 3 (is_class capacity unique) (λ es. refl) (unique_agrees (watched_in v) s.timeout copies) in
        let b = tells_is 1 (is_class capacity duplicate) (λ es. refl) (duplicate_agrees (watched_in v) s.timeout copies) in
        let c = tells_is 2 (is_class capacity unknown) (λ es. refl) (unknown_agrees (watched_in v) s.timeout copies) in
        λ i. record { unique = a i; duplicate = b i; unknown = c i }

    -- "answered N additional N late N"
    pub probes-line : (report_from log s).probes ≡ record { answered = tells 4; additional = tells 5; late = tells 6 }
    unfolding figures_from
    probes-line =
        let a = tells_is 4 (is_answered capacity) (λ es. refl) (answered_agrees (watched_in v) s.timeout copies) in
        let b = tells_is 5 (is_additional capacity) (λ es. refl) (additional_agrees (watched_in v) s.timeout copies) in
        let c = tells_is 6 (is_late capacity) (λ es. refl) (late_agrees (watched_in v) s.timeout copies) in
        λ i. record { answered = a i; additional = b i; late = c i }

    -- "reordered N independent N"
    pub order-line : (report_from log s).order ≡ record { reordered = tells 9; independent = tells 8 }
    unfolding figures_from
    order-line =
        let a = tells_is 9 (is_reordered capacity) (λ es. refl) (reordered_agrees (watched_in v) s.timeout copies) in
        let b = tells_is 8 (is_independent capacity) (λ es. refl) (independent_agrees (watched_in v) s.timeout copies) in
        λ i. record { reordered = a i; independent = b i }

    -- "evicted unanswered N": a log has too few records for a probe to leave the held ones
    pub evicted-line : (report_from log s).evicted ≡ record { unanswered = 0 }
    unfolding figures_from
    evicted-line =
        let h = served_in v s.timeout ok log s.count in
        let none = evicts-none capacity (events capacity h) (omega (arith, remembered_few capacity h, served_few v s.timeout ok log s.count, few)) in
        λ i. record { unanswered = none i }
