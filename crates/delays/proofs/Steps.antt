-- What the proofs of the other functions cite: on each way, what is answered is what the definition says. Assumes nothing.
use Rattle.std.specs.Prelude.{Option, Some, None}
use mathlib.Core.Path.{◌≡◌, refl, sym, ap, ◌∙◌}
use mathlib.Core.Bool.{Bool, true, false, ◌&&◌, true≢false, false≢true}
use Prim.Native.Nat.{ℕ, zero, suc, ◌+◌, ◌≤◌, ◌<◌}
use native.Mathlib.Nat.{zero-lt-suc}
use native.Mathlib.Omega.{arith}
use lib.IntN.{ℤ, pos, negsuc, ◌+ℤ◌}
use lib.Signed.{lt_z}
use lib.Dec.{ltb}
use lib.Ieee.{Float, binary64, of_int, div, of_bits}
use borrow.Author.Tests.{lt-ltb, le-ltb, ltb-true, ltb-false}
use Rattle.floats.specs.Whole.{magnitude, signed}
use Rattle.floats.proofs.Negative.{million}
use Rattle.delays.specs.declared.Nanoseconds.{Nanoseconds}
use Rattle.delays.specs.declared.Sum.{Sum}
use Rattle.delays.specs.declared.Delays.{Delays}
use Rattle.delays.specs.Sums.{value_of, total_of, sum_of}
use Rattle.delays.specs.Delays.{lesser, greater, recorded_of}
use Rattle.delays.specs.Summary.{in_ms, quotient_ms, average_ms}

-- ---- `below`
is_negative : (s : Bool) (n : ℕ) → s && ltb 0 n ≡ true → (k : ℕ) × (signed s n ≡ negsuc k) × (n ≡ suc k)
is_negative true zero h = absurd (false≢true h)
is_negative true (suc k) h = (k, refl, refl)
is_negative false n h = absurd (false≢true h)

not_negative : (s : Bool) (n : ℕ) → s && ltb 0 n ≡ false → signed s n ≡ pos n
not_negative true zero h = refl
not_negative true (suc k) h = absurd (true≢false (sym (lt-ltb 0 (suc k) (zero-lt-suc k)) ∙ h))
not_negative false n h = refl

next : (a b : ℕ) → ltb (suc a) (suc b) ≡ ltb a b
next a b = go (ltb a b) refl
  where
    under : (a b : ℕ) → a < b → suc a < suc b
    under a b h = omega arith

    over : (a b : ℕ) → b ≤ a → suc b ≤ suc a
    over a b h = omega arith

    go : (t : Bool) → ltb a b ≡ t → ltb (suc a) (suc b) ≡ t
    go true e = lt-ltb (suc a) (suc b) (under a b (ltb-true a b e))
    go false e = le-ltb (suc a) (suc b) (over a b (ltb-false a b e))

module _ (s t : Bool) (m n : ℕ) where
  pub both_under : s && ltb 0 m ≡ true → t && ltb 0 n ≡ true → ltb n m ≡ lt_z (signed s m) (signed t n)
  both_under h k =
      let a = is_negative s m h in
      let b = is_negative t n k in
      ap (λ (x : ℕ). ltb x m) b.2
      ∙ ap (λ (x : ℕ). ltb (suc b.0) x) a.2
      ∙ next b.0 a.0
      ∙ sym (ap (λ (z : ℤ). lt_z z (signed t n)) a.1 ∙ ap (lt_z (negsuc a.0)) b.1)

  pub first_under : s && ltb 0 m ≡ true → t && ltb 0 n ≡ false → true ≡ lt_z (signed s m) (signed t n)
  first_under h k = sym (ap (λ (z : ℤ). lt_z z (signed t n)) (is_negative s m h).1 ∙ ap (lt_z (negsuc (is_negative s m h).0)) (not_negative t n k))

  pub second-under : s && ltb 0 m ≡ false → t && ltb 0 n ≡ true → false ≡ lt_z (signed s m) (signed t n)
  second-under h k = sym (ap (λ (z : ℤ). lt_z z (signed t n)) (not_negative s m h) ∙ ap (lt_z (pos m)) (is_negative t n k).1)

  pub none-under : s && ltb 0 m ≡ false → t && ltb 0 n ≡ false → ltb m n ≡ lt_z (signed s m) (signed t n)
  none-under h k = sym (ap (λ (z : ℤ). lt_z z (signed t n)) (not_negative s m h) ∙ ap (lt_z (pos m)) (not_negative t n k))

-- ---- `lesser_of` and `greater_of`
module _ (e : Option Nanoseconds) (ns m : Nanoseconds) where
  pub now_least : e ≡ Some m → lt_z (value_of ns) (value_of m) ≡ true → Some ns ≡ lesser e ns
  now_least h t = rw (h, t)

  pub still-least : e ≡ Some m → lt_z (value_of ns) (value_of m) ≡ false → Some m ≡ lesser e ns
  still-least h t = rw (h, t)

  pub now_most : e ≡ Some m → lt_z (value_of m) (value_of ns) ≡ true → Some ns ≡ greater e ns
  now_most h t = rw (h, t)

  pub still-most : e ≡ Some m → lt_z (value_of m) (value_of ns) ≡ false → Some m ≡ greater e ns
  still-most h t = rw (h, t)

pub first-least : (e : Option Nanoseconds) (ns : Nanoseconds) → e ≡ None → Some ns ≡ lesser e ns
first-least e ns h = rw h

pub first-most : (e : Option Nanoseconds) (ns : Nanoseconds) → e ≡ None → Some ns ≡ greater e ns
first-most e ns h = rw h

-- ---- `recorded`
pub together : (d : Delays) (ns : Nanoseconds) (s : Sum) (l m : Option Nanoseconds) → s ≡ sum_of (total_of d.sum +ℤ value_of ns) → l ≡ lesser d.min ns → m ≡ greater d.max ns
    → record { count = d.count + 1; sum = s; min = l; max = m } ≡ recorded_of d ns
together d ns s l m p q r = λ i. record { count = d.count + 1; sum = p i; min = q i; max = r i }

-- ---- `in_ms`, `extreme_ms` and `average_ms`
pub spanned : (s : Bool) (n : ℕ) (x : Float) → x ≡ of_int binary64 (signed s (magnitude 0 n)) → div binary64 x (of_bits binary64 0x412e_8480_0000_0000) ≡ in_ms (signed s n)
spanned s n x e =
    ap (λ (y : Float). div binary64 y (of_bits binary64 0x412e_8480_0000_0000)) (e ∙ ap (λ (m : ℕ). of_int binary64 (signed s m)) (one_word n))
    ∙ ap (div binary64 (of_int binary64 (signed s n))) million
  where
    one_word : (n : ℕ) → magnitude 0 n ≡ n
    one_word n = omega arith

pub divided : (z : ℤ) (count : ℕ) (x y : Float) → (count ≡ 0 → ⊥) → x ≡ of_int binary64 z → y ≡ of_int binary64 (pos count)
    → Some (div binary64 (div binary64 x y) (of_bits binary64 0x412e_8480_0000_0000)) ≡ average_ms z count
divided z count x y h p q =
    ap Some
    (ap (λ (v : Float). div binary64 (div binary64 v y) (of_bits binary64 0x412e_8480_0000_0000)) p
    ∙ ap (λ (v : Float). div binary64 (div binary64 (of_int binary64 z) v) (of_bits binary64 0x412e_8480_0000_0000)) q
    ∙ ap (div binary64 (div binary64 (of_int binary64 z) (of_int binary64 (pos count)))) million)
    ∙ go count h
  where
    go : (count : ℕ) → (count ≡ 0 → ⊥) → Some (quotient_ms z count) ≡ average_ms z count
    go zero h = absurd (h refl)
    go (suc n) h = refl
