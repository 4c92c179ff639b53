-- THE LINE `followup` OF A GOOD LOG. Assumes nothing.
use Rattle.std.specs.Prelude.{Option, Some, None, Ok}
use Rattle.call_types.specs.declared.FollowUpTelemetry.{FollowUpTelemetry}
use mathlib.Core.Path.{◌≡◌, refl, sym, ap, ◌∙◌}
use mathlib.Core.Bool.{Bool, true, cond}
use mathlib.Core.List.{List}
use Prim.Native.Nat.{ℕ, ◌≤◌}
use native.Mathlib.Omega.{arith}
use lib.Dec.{eqb}
use lib.IntN.{ℤ}
use lib.ListN.{length}
use Rattle.limits.specs.Limits.{capacity}
use Rattle.history.specs.Counting.{present}
use Rattle.history.specs.Given.{follow_of}
use Rattle.history.specs.Ledger.{Event, accepted, copies_of, CallTest, count}
use Rattle.history.specs.FollowUps.{FollowClass, unavailable, ambiguous, unmatched, repeated, matched, follow_number, is_class_of, has_follow, is_follow}
use Rattle.log_whole.specs.declared.Settings.{Settings}
use Rattle.log_whole.specs.Logs.{log_of}
use Rattle.link_history.specs.Fresh.{Watching}
use Rattle.report_history.specs.Figures.{watching_by, figures_from, report_from}
use Rattle.recount_marks.specs.Marks.{Marked}
use Rattle.recount_counts.specs.Tests.{passing}
use Rattle.recount_follow_counts.specs.Tests.{follow_test, follow_in, follow_by}
use Rattle.recount_history.specs.Settings.{watched_in, Timed}
use Rattle.recount_history.proofs.Marked.{served_in}
use Rattle.recount_history.proofs.Counts.{Agree, count_says}
use Rattle.recount_history.proofs.Observations.{observe_agrees}
use Rattle.recount_history.proofs.Slots.{class_back}
use Rattle.recount_history.proofs.Whole.{few_records, timed}

module _ (watched : Bool) (t copies : ℕ) where
  class_test : (x : FollowClass) (f : Option FollowUpTelemetry) (own : ℕ) (offset : ℤ) (es : List Event) → length (accepted es) ≤ capacity
      → follow_test (follow_number x) copies f own offset es ≡ is_class_of capacity copies x (follow_of f) own offset es
  class_test x None own offset es l = refl
  class_test x (Some f) own offset es l = none_five x ∙ ap (eqb (follow_number x)) (sym (class_back capacity copies f own offset es l))
    where
      none_five : {b : Bool} (x : FollowClass) → cond (eqb (follow_number x) 5) true b ≡ b
      none_five unavailable = refl
      none_five ambiguous = refl
      none_five unmatched = refl
      none_five repeated = refl
      none_five matched = refl

  pub class_agrees : (x : FollowClass) → Agree watched t (follow_by (follow_number x) copies) (is_follow capacity copies x)
  class_agrees x =
      observe_agrees watched t (follow_in (follow_number x) copies) (λ es. refl) (λ o es. is_class_of capacity copies x (follow_of o.follow) o.key.reflector o.offset es)
      (λ es la o. class_test x o.follow o.key.reflector o.offset es la)

  any_test : (f : Option FollowUpTelemetry) (own : ℕ) (offset : ℤ) (es : List Event) → follow_test 5 copies f own offset es ≡ present (follow_of f)
  any_test None own offset es = refl
  any_test (Some f) own offset es = refl

  pub any_agrees : Agree watched t (follow_by 5 copies) (has_follow capacity copies)
  any_agrees = observe_agrees watched t (follow_in 5 copies) (λ es. refl) (λ o es. present (follow_of o.follow)) (λ es la o. any_test o.follow o.key.reflector o.offset es)

module _ (log : List ℕ) (s : Settings) (g : log_of log ≡ Ok s) (marks : List ℕ) where
  abbrev v : Watching
  v = watching_by s.threshold s.timeout

  abbrev copies : ℕ
  copies = copies_of s.copies

  -- how many follow-ups are of a class
  abbrev pub follows : ℕ → ℕ
  follows kind = passing (follow_by kind copies) log marks s.count

  module _ (marked : Marked (watched_in v) s.timeout log marks s.count) where
    abbrev ok : Timed v s.timeout
    ok = timed s.threshold s.timeout

    follows_is : (kind : ℕ) (test : CallTest) → Agree (watched_in v) s.timeout (follow_by kind copies) test → count capacity test (served_in v s.timeout ok log s.count) ≡ follows kind
    follows_is kind test a =
        sym (count_says v s.timeout ok log marks s.count (omega (arith, few_records log s g)) marked (follow_by kind copies) (λ es. refl) test a s.count (omega arith))

    class_is : (x : FollowClass) → count capacity (is_follow capacity copies x) (served_in v s.timeout ok log s.count) ≡ follows (follow_number x)
    class_is x = follows_is (follow_number x) (is_follow capacity copies x) (class_agrees (watched_in v) s.timeout copies x)

    -- "followup N matched N repeated N unmatched N ambiguous N unavailable N"
    pub followup-line : (report_from log s).followup ≡ record { observations = follows 5; matched = follows 4; repeated = follows 3; unmatched = follows 2; ambiguous = follows 1; unavailable = follows 0 }
    unfolding figures_from
    followup-line =
        let o = follows_is 5 (has_follow capacity copies) (any_agrees (watched_in v) s.timeout copies) in
        let a = class_is matched in
        let b = class_is repeated in
        let c = class_is unmatched in
        let d = class_is ambiguous in
        let e = class_is unavailable in
        λ i. record { observations = o i; matched = a i; repeated = b i; unmatched = c i; ambiguous = d i; unavailable = e i }
