-- THE LINES `direct` AND `missing` OF A GOOD LOG. Assumes nothing.
use Rattle.std.specs.Prelude.{Some, Option, None, Ok}
use mathlib.Core.Path.{◌≡◌, refl, sym, ap, ◌∙◌}
use mathlib.Core.Bool.{Bool}
use mathlib.Core.List.{List}
use Prim.Native.Nat.{ℕ, ◌≤◌}
use native.Mathlib.Omega.{arith}
use Rattle.limits.specs.Limits.{capacity}
use Rattle.call_types.specs.declared.CounterPoint.{CounterPoint}
use Rattle.history.specs.Given.{ordinal_of, counters_of}
use Rattle.history.specs.Ledger.{Event, count, events}
use Rattle.history.specs.DirectLoss.{DirectClass, is_observation, is_unavailable, is_discontinuity, is_below, direct_at, is_direct, window, Spans, spans}
use Rattle.observe_history.specs.Direct.{packets_of, spans_shown}
use Rattle.link_figures.specs.Figures.{value_of as shown_of}
use Rattle.log_whole.specs.declared.Settings.{Settings}
use Rattle.log_whole.specs.Logs.{log_of}
use Rattle.link_history.specs.Fresh.{Watching}
use Rattle.report_history.specs.Figures.{watching_by, figures_from, report_from}
use Rattle.recount_seen.specs.Seen.{events_of}
use Rattle.recount_marks.specs.Marks.{Marked}
use Rattle.recount_counts.specs.Tests.{passing}
use Rattle.recount_direct.specs.Classes.{class_test, direct_in, direct_by}
use Rattle.recount_direct.specs.Missing.{value_of, missing_of}
use Rattle.recount_history.specs.Settings.{watched_in, Timed}
use Rattle.recount_history.proofs.Marked.{served_in, marks_say}
use Rattle.recount_history.proofs.Counts.{Agree, count_says}
use Rattle.recount_history.proofs.Observations.{observe_agrees}
use Rattle.recount_history.proofs.Whole.{few_records, timed}

-- a test of counters by the number that names it
module _ (watched : Bool) (t kind : ℕ) (test : DirectClass → Bool) (same : (x : DirectClass) → class_test kind x ≡ test x) where
  counters_agree : (n : Option ℕ) (x : Option CounterPoint) (es : List Event) → direct_at capacity (class_test kind) n x es ≡ direct_at capacity test n x es
  counters_agree n None es = refl
  counters_agree n (Some c) es = same _

  pub direct_agrees : Agree watched t (direct_by kind) (is_direct capacity test)
  direct_agrees =
      observe_agrees watched t (direct_in kind) (λ es. refl) (λ o es. direct_at capacity test (ordinal_of o.ordinal) (counters_of o.counters) es)
      (λ es la o. counters_agree (ordinal_of o.ordinal) (counters_of o.counters) es)

-- what is missing, as it is shown of a summary and of a window's figures
packets_shown : (n : Option ℕ) → shown_of (packets_of n) ≡ value_of n
packets_shown None = refl
packets_shown (Some n) = refl

spans-missing : (x : Option Spans) → record { forward = shown_of (spans_shown x).forward; reverse = shown_of (spans_shown x).reverse } ≡ missing_of x
spans-missing None = refl
spans-missing (Some s) = ap (λ (v : Option ℕ). record { forward = v; reverse = Some s.reverse-missing }) (packets_shown s.forward_missing)

module _ (log : List ℕ) (s : Settings) (g : log_of log ≡ Ok s) (marks : List ℕ) where
  abbrev v : Watching
  v = watching_by s.threshold s.timeout

  -- how many observations with counters pass a test
  abbrev pub directs : ℕ → ℕ
  directs kind = passing (direct_by kind) log marks s.count

  module _ (marked : Marked (watched_in v) s.timeout log marks s.count) where
    abbrev ok : Timed v s.timeout
    ok = timed s.threshold s.timeout

    few : s.count ≤ capacity
    few = omega (arith, few_records log s g)

    directs_is : (kind : ℕ) (test : DirectClass → Bool) → ((x : DirectClass) → class_test kind x ≡ test x) → count capacity (is_direct capacity test) (served_in v s.timeout ok log s.count) ≡ directs kind
    directs_is kind test same =
        sym (count_says v s.timeout ok log marks s.count few marked (direct_by kind) (λ es. refl) (is_direct capacity test) (direct_agrees (watched_in v) s.timeout kind test same) s.count (omega arith))

    -- "direct N unavailable N discontinuities N reordered N"
    pub direct-line : (report_from log s).direct ≡ record { observations = directs 0; unavailable = directs 1; discontinuities = directs 2; reordered = directs 3 }
    unfolding figures_from
    direct-line =
        let a = directs_is 0 is_observation (λ x. refl) in
        let b = directs_is 1 is_unavailable (λ x. refl) in
        let c = directs_is 2 is_discontinuity (λ x. refl) in
        let d = directs_is 3 is_below (λ x. refl) in
        λ i. record { observations = a i; unavailable = b i; discontinuities = c i; reordered = d i }

    -- "missing forward N reverse N"
    pub missing-line : (report_from log s).missing ≡ missing_of (spans (window capacity (events_of log marks s.count)))
    unfolding figures_from
    missing-line =
        spans-missing (spans (window capacity (events capacity (served_in v s.timeout ok log s.count))))
        ∙ ap (λ (es : List Event). missing_of (spans (window capacity es))) (sym (marks_say v s.timeout ok log marks s.count few marked s.count (omega arith)))
