-- A whole number in the last digits of 2^52's pattern, and the difference of two of them: what a host's whole numbers below 2^52 are as f64.
-- Assumes nothing.
use mathlib.Core.Path.{◌≡◌, refl, sym, ap, ◌∙◌, subst}
use mathlib.Core.Bool.{Bool, true, false, not, cond, true≢false}
use Prim.Native.Nat.{ℕ, zero, suc, ◌+◌, ◌-◌, ◌*◌, ◌/◌, ◌%◌, ◌^◌, ◌≤◌, ◌<◌}
use native.Mathlib.Nat.{zero-lt-suc, mul-pos, mul_assoc, mul_comm, mul-one, mul-le-mul_right, mul-lt-mul_of_pos_right, mul-sub}
use native.Mathlib.Omega.{arith}
use borrow.Author.Tests.{lt-ltb, le-ltb, lt-leb, le-leb, ltb-true, ltb-false}
use lib.Dec.{T, leb, ltb}
use lib.Pow.{pow_pos}
use lib.IntN.{pos, neg_ℤ, ◌-ℤ◌}
use lib.Ieee.{Float, nan, inf, fin, Format, binary64, up, down, round, odd, add, sub, neg, sum, of_int, of_bits, of_fields, nan_bits}
use lib.Ieee.Fits.{down_pos}
use lib.Ieee.Bits.{nan_bits_above}
use lib.Ieee.Exact.{HasValue, odd_sign}
use lib.Ieee.Scale.{round_same}
use Rattle.floats.specs.Whole.{magnitude, signed}
use Rattle.floats.proofs.Values.{rescale}
use Rattle.spread.proofs.Steps.{centered-below, centered-above}

-- ---- which words are numbers

pub number_test_lem : (word : ℕ) → leb (word % 9223372036854775808) 9218868437227405312 ≡ not (nan_bits binary64 word)
number_test_lem word = other (word % 9223372036854775808) 9218868437227405312 ∙ ap not (sym (nan_bits_above binary64 word))
  where
    other : (a b : ℕ) → leb a b ≡ not (ltb b a)
    other a b = go (ltb b a) refl
      where
        go : (t : Bool) → ltb b a ≡ t → leb a b ≡ not (ltb b a)
        go true e = lt-leb a b (ltb-true b a e) ∙ ap not (sym e)
        go false e = le-leb a b (ltb-false b a e) ∙ ap not (sym e)

-- ---- the pattern of 2^52 + n

of_bits_is : (b : ℕ) → of_bits binary64 b ≡ of_fields binary64 (leb (2 ^ 63) b) (b % 2 ^ 63 / 2 ^ 52) (b % 2 ^ 52)
unfolding of_bits
of_bits_is b = refl

fields : (t : ℕ) → of_fields binary64 false 1075 t ≡ odd 53 false (2 ^ 52 + t) 1074 1074
unfolding of_fields
fields t = refl

module _ (n : ℕ) (h : n < 2 ^ 52) where
  abbrev pattern : ℕ
  pattern = 4841369599423283200 + n

  sign_is : leb (2 ^ 63) pattern ≡ false
  sign_is = lt-leb (2 ^ 63) pattern (omega (arith, h))

  exponent_is : pattern % 2 ^ 63 / 2 ^ 52 ≡ 1075
  exponent_is = omega (arith, h)

  digits_are : pattern % 2 ^ 52 ≡ n
  digits_are = omega (arith, h)

  pattern_is : of_bits binary64 pattern ≡ odd 53 false (2 ^ 52 + n) 1074 1074
  pattern_is =
      of_bits_is pattern
      ∙ ap (λ (s : Bool). of_fields binary64 s (pattern % 2 ^ 63 / 2 ^ 52) (pattern % 2 ^ 52)) sign_is
      ∙ ap (λ (x : ℕ). of_fields binary64 false x (pattern % 2 ^ 52)) exponent_is
      ∙ ap (of_fields binary64 false 1075) digits_are
      ∙ fields n

  pub lifted-number : T (not (nan_bits binary64 pattern))
  lifted-number = subst (λ (b : Bool). T (not b)) (sym (nan_bits_above binary64 pattern ∙ le-ltb 9218868437227405312 (pattern % 2 ^ 63) (omega (arith, h)))) tt

  pub lifted_is : HasValue (of_bits binary64 pattern) false (2 ^ 52 + n) 1
  lifted_is =
      rescale (of_bits binary64 pattern) false ((2 ^ 52 + n) * 2 ^ 1074) (2 ^ 1074) (2 ^ 52 + n) 1 (pow_pos 1074) (sym (mul-one ((2 ^ 52 + n) * 2 ^ 1074)))
      (subst (λ (y : Float). HasValue y false ((2 ^ 52 + n) * 2 ^ 1074) (2 ^ 1074)) (sym pattern_is) (odd_sign 53 false (2 ^ 52 + n) 1074 1074))

-- ---- a difference of two values that are whole numbers

-- a value that is a whole number, over a common denominator
over : (m e p g : ℕ) → m * 1 ≡ p * e → m * g ≡ p * (e * g)
over m e p g h = ap (λ (z : ℕ). z * g) (sym (mul-one m) ∙ h) ∙ mul_assoc p e g

over-other : (m e p g : ℕ) → m * 1 ≡ p * e → m * g ≡ p * (g * e)
over-other m e p g h = over m e p g h ∙ ap (λ (z : ℕ). p * z) (mul_comm e g)

less : (p q c : ℕ) → (q * c - p * c) * 1 ≡ (q - p) * c
less p q c = mul-one (q * c - p * c) ∙ ap (λ (z : ℕ). z - p * c) (mul_comm q c) ∙ ap (λ (z : ℕ). c * q - z) (mul_comm p c) ∙ sym (mul-sub c q p) ∙ mul_comm c (q - p)

module _ (f : Format) (a b c p q : ℕ) (C : 0 < c) (A : a ≡ p * c) (B : b ≡ q * c) where
  sum_below : p < q → sum f false a true b c ≡ round f true (q - p) 1
  unfolding sum
  sum_below h =
      ap (λ (t : Bool). cond t (round f true (b - a) c) (round f false (a - b) c)) (lt-ltb a b (subst (λ (x : ℕ). x < b) (sym A) (subst (λ (y : ℕ). p * c < y) (sym B) (mul-lt-mul_of_pos_right h C))))
      ∙ ap (λ (x : ℕ). round f true (b - x) c) A
      ∙ ap (λ (y : ℕ). round f true (y - p * c) c) B
      ∙ round_same f true (q * c - p * c) c (q - p) 1 C (zero-lt-suc 0) (less p q c)

  sum_above : q ≤ p → sum f false a true b c ≡ round f false (p - q) 1
  unfolding sum
  sum_above h =
      ap (λ (t : Bool). cond t (round f true (b - a) c) (round f false (a - b) c)) (le-ltb a b (subst (λ (x : ℕ). b ≤ x) (sym A) (subst (λ (y : ℕ). y ≤ p * c) (sym B) (mul-le-mul_right c h))))
      ∙ ap (λ (x : ℕ). round f false (x - b) c) A
      ∙ ap (λ (y : ℕ). round f false (p * c - y) c) B
      ∙ round_same f false (p * c - q * c) c (p - q) 1 C (zero-lt-suc 0) (less q p c)

sub_below : (f : Format) (x y : Float) (p q : ℕ) → HasValue x false p 1 → HasValue y false q 1 → p < q → sub f x y ≡ round f true (q - p) 1
unfolding sub add neg
sub_below f nan y p q h k l = absurd h
sub_below f (inf s) y p q h k l = absurd h
sub_below f (fin s m e) nan p q h k l = absurd k
sub_below f (fin s m e) (inf t) p q h k l = absurd k
sub_below f (fin true m e) (fin t n d) p q h k l = absurd (true≢false h.0)
sub_below f (fin false m e) (fin true n d) p q h k l = absurd (true≢false k.0)
sub_below f (fin false m e) (fin false n d) p q h k l =
    sum_below f (m * up e * down d) (n * up d * down e) (down e * down d) p q (mul-pos (down_pos e) (down_pos d)) (over (m * up e) (down e) p (down d) h.1) (over-other (n * up d) (down d) q (down e) k.1) l

sub_above : (f : Format) (x y : Float) (p q : ℕ) → HasValue x false p 1 → HasValue y false q 1 → q ≤ p → sub f x y ≡ round f false (p - q) 1
unfolding sub add neg
sub_above f nan y p q h k l = absurd h
sub_above f (inf s) y p q h k l = absurd h
sub_above f (fin s m e) nan p q h k l = absurd k
sub_above f (fin s m e) (inf t) p q h k l = absurd k
sub_above f (fin true m e) (fin t n d) p q h k l = absurd (true≢false h.0)
sub_above f (fin false m e) (fin true n d) p q h k l = absurd (true≢false k.0)
sub_above f (fin false m e) (fin false n d) p q h k l =
    sum_above f (m * up e * down d) (n * up d * down e) (down e * down d) p q (mul-pos (down_pos e) (down_pos d)) (over (m * up e) (down e) p (down d) h.1) (over-other (n * up d) (down d) q (down e) k.1) l

-- a whole number below zero, rounded
round_below : (n : ℕ) → 0 < n → round binary64 true n 1 ≡ of_int binary64 (signed true (magnitude 0 n))
unfolding of_int
round_below zero h = absurd (omega (arith, h))
round_below (suc n) h = ap (λ (m : ℕ). of_int binary64 (neg_ℤ (pos m))) (sized (suc n))
  where
    sized : (m : ℕ) → m ≡ magnitude 0 m
    sized m = omega arith

round_above : (n : ℕ) → round binary64 false n 1 ≡ of_int binary64 (signed false (magnitude 0 n))
unfolding of_int
round_above n = ap (λ (m : ℕ). round binary64 false m 1) (sized n)
  where
    sized : (m : ℕ) → m ≡ magnitude 0 m
    sized m = omega arith

-- the difference of both lifted by 2^52 is their own
pub difference_is : (x y : Float) (a b : ℕ) → HasValue x false (2 ^ 52 + a) 1 → HasValue y false (2 ^ 52 + b) 1 → sub binary64 x y ≡ of_int binary64 (pos a -ℤ pos b)
difference_is x y a b h k = go (ltb a b) refl
  where
    shift : (a b : ℕ) → 2 ^ 52 + b - (2 ^ 52 + a) ≡ b - a
    shift a b = omega arith

    go : (t : Bool) → ltb a b ≡ t → sub binary64 x y ≡ of_int binary64 (pos a -ℤ pos b)
    go true e =
        let l = ltb-true a b e in
        centered-below a b (sub binary64 x y) l
        (sub_below binary64 x y (2 ^ 52 + a) (2 ^ 52 + b) h k (omega (arith, l)) ∙ ap (λ (n : ℕ). round binary64 true n 1) (shift a b) ∙ round_below (b - a) (omega (arith, l)))
    go false e =
        let l = ltb-false a b e in
        centered-above a b (sub binary64 x y) l
        (sub_above binary64 x y (2 ^ 52 + a) (2 ^ 52 + b) h k (omega (arith, l)) ∙ ap (λ (n : ℕ). round binary64 false n 1) (shift b a) ∙ round_above (a - b))
