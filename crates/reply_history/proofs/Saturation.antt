-- A probe's replies are counted up to 65,535: no test of a count sees the difference, since copies are at most that.
-- Assumes nothing.
use mathlib.Core.Path.{◌≡◌, refl}
use mathlib.Core.Bool.{not}
use Prim.Native.Nat.{ℕ, zero, suc, ◌^◌, ◌≤◌, ◌<◌, min}
use native.Mathlib.Nat.{min-eq_left, min-eq_right}
use native.Mathlib.Omega.{arith}
use lib.Dec.{eqb, ltb}
use Rattle.chains.proofs.Tests.{Test, holds, fails, lt_test, eq_false, lt_true, lt_false}
use Rattle.probe_ring.specs.Row.{most_replies, one_more}

below-most : (r : ℕ) → r ≤ most_replies → min r most_replies ≡ r
below-most r l = min-eq_left l

at_most : (r : ℕ) → most_replies ≤ r → min r most_replies ≡ most_replies
at_most r l = min-eq_right l

-- one reply more
pub one_more_lem : (r : ℕ) → one_more (min r most_replies) ≡ min (suc r) most_replies
unfolding one_more
one_more_lem r = go (lt_test r most_replies)
  where
    go : Test (r < most_replies) (ltb r most_replies) → one_more (min r most_replies) ≡ min (suc r) most_replies
    go (holds l t) = rw (below-most r (omega arith), below-most (suc r) (omega arith), t) (omega arith)
    go (fails l t) = rw (at_most r (omega arith), at_most (suc r) (omega arith))

pub none_yet : (r : ℕ) → eqb (min r most_replies) 0 ≡ eqb r 0
none_yet zero = refl
none_yet (suc r) = go (lt_test (suc r) most_replies)
  where
    go : Test (suc r < most_replies) (ltb (suc r) most_replies) → eqb (min (suc r) most_replies) 0 ≡ eqb (suc r) 0
    go (holds l t) = rw (below-most (suc r) (omega arith))
    go (fails l t) = rw (at_most (suc r) (omega arith), eq_false (suc r) 0 (λ e. omega (arith, e)))

pub some_before : (r : ℕ) → ltb 0 (min r most_replies) ≡ not (eqb r 0)
some_before zero = refl
some_before (suc r) = go (lt_test (suc r) most_replies)
  where
    go : Test (suc r < most_replies) (ltb (suc r) most_replies) → ltb 0 (min (suc r) most_replies) ≡ not (eqb (suc r) 0)
    go (holds l t) = rw (below-most (suc r) (omega arith), eq_false (suc r) 0 (λ e. omega (arith, e)), lt_true 0 (suc r) (omega arith))
    go (fails l t) = rw (at_most (suc r) (omega arith), eq_false (suc r) 0 (λ e. omega (arith, e)))

pub below-copies : (r copies : ℕ) → copies < 2 ^ 16 → ltb (min r most_replies) copies ≡ ltb r copies
below-copies r copies c = go (lt_test r most_replies)
  where
    go : Test (r < most_replies) (ltb r most_replies) → ltb (min r most_replies) copies ≡ ltb r copies
    go (holds l t) = rw (below-most r (omega arith))
    go (fails l t) = rw (at_most r (omega arith), lt_false r copies (omega arith), lt_false most_replies copies (omega arith))

pub kept_in : (r : ℕ) → min r most_replies < 2 ^ 16
kept_in r = go (lt_test r most_replies)
  where
    go : Test (r < most_replies) (ltb r most_replies) → min r most_replies < 2 ^ 16
    go (holds l t) = rw (below-most r (omega arith)) (omega arith)
    go (fails l t) = rw (at_most r (omega arith)) (omega arith)
