-- What a round trip leaves in the eight words of the round trips. Assumes nothing.
use Rattle.std.specs.Prelude.{Some}
use mathlib.Core.Path.{◌≡◌, refl, sym, ap, ◌∙◌}
use mathlib.Core.Bool.{Bool, true, false, ◌&&◌, cond}
use mathlib.Core.List.{List, [], ◌∷◌}
use Prim.Native.Nat.{ℕ, ◌+◌, ◌^◌, ◌<◌}
use native.Mathlib.Omega.{arith}
use lib.Dec.{eqb, ltb}
use lib.IntN.{pos}
use lib.ListN.{get_or, set}
use lib.Seq.{sets, get_or-set_other}
use borrow.Author.Tests.{eqb-true}
use Rattle.floats.specs.Whole.{magnitude}
use Rattle.delays.specs.declared.Delays.{Delays}
use Rattle.delays.specs.declared.Sum.{Sum}
use Rattle.limits.specs.Limits.{sum_bound}
use Rattle.delays.specs.Delays.{recorded_of}
use Rattle.delays.specs.Sums.{nanoseconds_of, sum_of}
use Rattle.host_ledger.specs.Parts.{extreme_kind, extreme_magnitude, delays_of, delays_at, delays_words}
use Rattle.host_ledger.proofs.Kept.{kept}

pub high-below : (high low : ℕ) → magnitude high low < sum_bound → high < 2 ^ 62
high-below high low h = omega (arith, h)

-- ---- the tests

pub all_three : (a b c : Bool) → (a && b && c) ≡ true → (a ≡ true) × (b ≡ true) × (c ≡ true)
all_three true true true e = (refl, refl, refl)
all_three true true false e = (refl, refl, e)
all_three true false c e = (refl, e, absurd_bool c e)
  where
    absurd_bool : (c : Bool) → false ≡ true → c ≡ true
    absurd_bool true e = refl
    absurd_bool false e = e
all_three false b c e = (e, any b e, any c e)
  where
    any : (c : Bool) → false ≡ true → c ≡ true
    any true e = refl
    any false e = e

pub ordinary-as :
    (w : List ℕ) (b : Bool) → b ≡ (eqb (get_or w 26 0) 0 && eqb (get_or w 29 0) 1 && eqb (get_or w 31 0) 1) → b ≡ true
    → (get_or w 26 0 ≡ 0) × (get_or w 29 0 ≡ 1) × (get_or w 31 0 ≡ 1)
ordinary-as w b e t =
    let three = all_three (eqb (get_or w 26 0) 0) (eqb (get_or w 29 0) 1) (eqb (get_or w 31 0) 1) (sym e ∙ t) in
    (eqb-true _ _ three.0, eqb-true _ _ three.1, eqb-true _ _ three.2)

-- ---- the stores

module _ (w : List ℕ) (c h l a b : ℕ) where
  abbrev counted : List ℕ
  counted = set w 25 c

  abbrev summed : List ℕ
  summed = set (set counted 27 h) 28 l

  abbrev least : List ℕ
  least = set summed 30 a

  same_26 : get_or counted 26 0 ≡ get_or w 26 0
  same_26 = get_or-set_other w 25 26 c 0 (λ e. omega (arith, e))

  same_29 : get_or summed 29 0 ≡ get_or w 29 0
  same_29 =
      get_or-set_other (set counted 27 h) 28 29 l 0 (λ e. omega (arith, e)) ∙ get_or-set_other counted 27 29 h 0 (λ e. omega (arith, e))
      ∙ get_or-set_other w 25 29 c 0 (λ e. omega (arith, e))

  same_31 : get_or least 31 0 ≡ get_or w 31 0
  same_31 =
      get_or-set_other summed 30 31 a 0 (λ e. omega (arith, e)) ∙ get_or-set_other (set counted 27 h) 28 31 l 0 (λ e. omega (arith, e))
      ∙ get_or-set_other counted 27 31 h 0 (λ e. omega (arith, e)) ∙ get_or-set_other w 25 31 c 0 (λ e. omega (arith, e))

  stored : set least 32 b ≡ sets w 25 (c ∷ get_or w 26 0 ∷ h ∷ l ∷ get_or w 29 0 ∷ a ∷ get_or w 31 0 ∷ b ∷ [])
  stored = sym (
      ap (λ (v : List ℕ). set (set (set (set (set (set v 27 h) 28 l) 29 (get_or w 29 0)) 30 a) 31 (get_or w 31 0)) 32 b) (kept counted w 26 same_26)
      ∙ ap (λ (v : List ℕ). set (set (set v 30 a) 31 (get_or w 31 0)) 32 b) (kept summed w 29 same_29)
      ∙ ap (λ (v : List ℕ). set v 32 b) (kept least w 31 same_31))

-- ---- the words

one_kind : (b : Bool) (n m : ℕ) → 1 ≡ extreme_kind (Some (cond b (nanoseconds_of (pos n)) (nanoseconds_of (pos m))))
one_kind true n m = refl
one_kind false n m = refl

its_magnitude : (b : Bool) (n m : ℕ) → cond b n m ≡ extreme_magnitude (Some (cond b (nanoseconds_of (pos n)) (nanoseconds_of (pos m))))
its_magnitude true n m = refl
its_magnitude false n m = refl

module _ (w : List ℕ) (ns : ℕ) (e26 : get_or w 26 0 ≡ 0) (e29 : get_or w 29 0 ≡ 1) (e31 : get_or w 31 0 ≡ 1) where
  said : delays_at 25 w ≡ delays_of (get_or w 25 0) 0 (get_or w 27 0) (get_or w 28 0) 1 (get_or w 30 0) 1 (get_or w 32 0)
  said = λ i. delays_of (get_or w 25 0) (e26 i) (get_or w 27 0) (get_or w 28 0) (e29 i) (get_or w 30 0) (e31 i) (get_or w 32 0)

  pub added-as :
      (sum : Sum) (least most : ℕ) → sum ≡ sum_of (pos (magnitude (get_or w 27 0) (get_or w 28 0) + ns))
      → least ≡ cond (ltb ns (get_or w 30 0)) ns (get_or w 30 0) → most ≡ cond (ltb (get_or w 32 0) ns) ns (get_or w 32 0)
      → set (set (set (set (set w 25 (get_or w 25 0 + 1)) 27 sum.high) 28 sum.low) 30 least) 32 most
      ≡ sets w 25 (delays_words (recorded_of (delays_at 25 w) (nanoseconds_of (pos ns))))
  unfolding delays_words delays_of
  added-as sum least most es el em =
      stored w (get_or w 25 0 + 1) sum.high sum.low least most
      ∙ ap (sets w 25) (λ i.
      (get_or w 25 0 + 1)
      ∷ (e26 i)
      ∷ (es i).high
      ∷ (es i).low
      ∷ ((e29 ∙ one_kind (ltb ns (get_or w 30 0)) ns (get_or w 30 0)) i)
      ∷ ((el ∙ its_magnitude (ltb ns (get_or w 30 0)) ns (get_or w 30 0)) i)
      ∷ ((e31 ∙ one_kind (ltb (get_or w 32 0) ns) ns (get_or w 32 0)) i)
      ∷ ((em ∙ its_magnitude (ltb (get_or w 32 0) ns) ns (get_or w 32 0)) i)
      ∷ [])
      ∙ ap (λ (d : Delays). sets w 25 (delays_words (recorded_of d (nanoseconds_of (pos ns))))) (sym said)
