-- One record more, and that none passes a test of a number above 9. Assumes nothing.
use mathlib.Core.Path.{◌≡◌, refl, sym, ap, ◌∙◌}
use mathlib.Core.Bool.{Bool, true, false}
use mathlib.Core.List.{List}
use Prim.Native.Nat.{ℕ, zero, suc, ◌≤◌, ◌<◌}
use native.Mathlib.Omega.{arith}
use borrow.Author.Tests.{ne_eqb}
use Rattle.call_types.specs.declared.Reply.{Reply}
use Rattle.history.specs.Counting.{tally}
use Rattle.history.specs.Ledger.{Event}
use Rattle.recount_seen.specs.declared.Seen.{Seen}
use Rattle.recount_seen.specs.declared.Seen.TheVariants.{Nothing, Probe, Duplicate, Unknown, Known, First, Observed}
use Rattle.recount_seen.specs.Seen.{seen_at, events_of}
use Rattle.recount_back.specs.Back.{Counted}
use Rattle.recount_back.proofs.Laws.{counted_is}
use Rattle.recount_counts.specs.Tests.{unique_at, test_by, passing}

pub passing_is : {t : ℕ → Bool → Type 0} {n r : ℕ} (test : Seen → List Event → Bool) (log marks : List ℕ) → Counted t n r → ((j : ℕ) (b : Bool) → t j b → b ≡ test (seen_at log marks j) (events_of log marks j))
    → r ≡ passing test log marks n
unfolding passing
passing_is test log marks h tests = counted_is (passing test log marks) (λ j. test (seen_at log marks j) (events_of log marks j)) refl (λ j. refl) h tests

-- no more than the records pass
pub passing-most : (test : Seen → List Event → Bool) (log marks : List ℕ) (n : ℕ) → passing test log marks n ≤ n
unfolding passing
passing-most test log marks zero = omega arith
passing-most test log marks (suc n) = go (test (seen_at log marks n) (events_of log marks n)) (passing-most test log marks n)
  where
    go : (b : Bool) → passing test log marks n ≤ n → tally b (passing test log marks n) ≤ suc n
    go true l = omega arith
    go false l = omega arith

-- ---- a number that is no test's

module _ (kind copies : ℕ) (above : 9 < kind) where
  no_unique : (es : List Event) (before : ℕ) (a : Reply) → unique_at kind copies es before a ≡ false
  no_unique es before a =
      simp (
        ne_eqb kind 9 (omega arith),
        ne_eqb kind 3 (omega arith),
        ne_eqb kind 4 (omega arith),
        ne_eqb kind 5 (omega arith),
        ne_eqb kind 6 (omega arith),
        ne_eqb kind 7 (omega arith),
        ne_eqb kind 8 (omega arith),
      )

  no_record : (s : Seen) (es : List Event) → test_by kind copies s es ≡ false
  no_record Nothing es = refl
  no_record (Probe s) es = ne_eqb kind 0 (omega arith)
  no_record Duplicate es = ne_eqb kind 1 (omega arith)
  no_record Unknown es = ne_eqb kind 2 (omega arith)
  no_record (Known a) es = no_unique es _ a
  no_record (First a) es = no_unique es 0 a
  no_record (Observed o) es = refl

  pub none_pass : (log marks : List ℕ) (n : ℕ) → 0 ≡ passing (test_by kind copies) log marks n
  unfolding passing
  none_pass log marks zero = refl
  none_pass log marks (suc n) =
      none_pass log marks n ∙ sym (ap (λ (b : Bool). tally b (passing (test_by kind copies) log marks n)) (no_record (seen_at log marks n) (events_of log marks n)))
