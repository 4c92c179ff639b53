-- What the proofs of `nearest_leading` and `nearest_magnitude` cite: the words high and low, high's top bit brought to bit 63 by the shift z, and k = 64 - z.
-- q is the 64 leading digits of high * 2 ^ 64 + low, and low % 2 ^ k is what stands below them. Assumes nothing.
use Rattle.std.proofs.Common.{◌≡◌, ℕ, ◌+◌, ◌-◌, ◌*◌, ◌/◌, ◌%◌, ◌^◌, ◌<◌, ◌≤◌, false, pos, sym, refl, ap, ◌∙◌, subst, le_trans, le_of_eq, lt_of_lt_of_le, le-add_right, add-zero, add_assoc, mod-lt, mod-eq_of_lt, mul_assoc, add-mul, add_comm, lt_of_mul-lt-mul_right, one-mul, div-add-mod', zero-add, mul-one, mul_right_comm, arith, pow_pos, pow-add, shr_lt}
use lib.Arith.{digits_lt}
use lib.Pow.{pow-lt}
use lib.Ieee.{binary64, round, of_int}
use Rattle.floats.specs.Whole.{magnitude}
use Rattle.floats.proofs.Sticky.{sticky}

of_int_is : (n : ℕ) → of_int binary64 (pos n) ≡ round binary64 false n 1
unfolding of_int
of_int_is n = refl

module _ (high low z : ℕ) (Z : z ≡ 0 → ⊥) (Y : z < 64) (A : 2 ^ 63 ≤ high * 2 ^ z) (B : high * 2 ^ z < 2 ^ 64) (L : low < 2 ^ 64) where
  abbrev k : ℕ
  k = 64 - z

  abbrev unit : ℕ
  unit = 1 * 2 ^ k % 2 ^ 64

  abbrev q : ℕ
  q = high * 2 ^ z % 2 ^ 64 + low / unit

  unit_is : unit ≡ 2 ^ k
  unit_is = ap (λ (x : ℕ). x % 2 ^ 64) (one-mul (2 ^ k)) ∙ mod-eq_of_lt (pow-lt (under z Z Y))
    where
      under : (z : ℕ) → (z ≡ 0 → ⊥) → z < 64 → 64 - z < 64
      under z p r = omega arith

  pub unit_pos : 0 < unit
  unit_pos = subst (λ (x : ℕ). 0 < x) (sym unit_is) (pow_pos k)

  whole : k + z ≡ 64
  whole = go z Y
    where
      go : (z : ℕ) → z < 64 → 64 - z + z ≡ 64
      go z h = omega arith

  both : 2 ^ k * 2 ^ z ≡ 2 ^ 64
  both = sym (pow-add 2 k z) ∙ ap (λ (x : ℕ). 2 ^ x) whole

  q_is : q ≡ high * 2 ^ z + low / 2 ^ k
  q_is = ap (λ (x : ℕ). x + low / unit) (mod-eq_of_lt B) ∙ ap (λ (x : ℕ). high * 2 ^ z + low / x) unit_is

  low_lt : low / 2 ^ k < 2 ^ z
  low_lt = shr_lt z k (subst (λ (x : ℕ). low < 2 ^ x) (sym (add_comm z k ∙ whole)) L)

  high_lt : high < 2 ^ k
  high_lt = lt_of_mul-lt-mul_right (2 ^ z) (lt_of_lt_of_le B (le_of_eq (sym both)))

  pub rest_lt : low % unit < 2 ^ k
  rest_lt = lt_of_lt_of_le (mod-lt low unit_pos) (le_of_eq unit_is)

  pub q_lt : q < 2 ^ 64
  q_lt = subst (λ (x : ℕ). x < 2 ^ 64) (sym q_is) (lt_of_lt_of_le (digits_lt high_lt low_lt) (le_of_eq both))

  pub q_ge : 2 ^ 63 ≤ q
  q_ge = subst (λ (x : ℕ). 2 ^ 63 ≤ x) (sym q_is) (le_trans A (le-add_right (high * 2 ^ z) (low / 2 ^ k)))

  -- the number is q and the rest below it
  pub split : q * 2 ^ k + low % unit ≡ magnitude high low
  split =
      ap (λ (x : ℕ). x * 2 ^ k + low % unit) q_is
      ∙ ap (λ (x : ℕ). (high * 2 ^ z + low / 2 ^ k) * 2 ^ k + low % x) unit_is
      ∙ ap (λ (x : ℕ). x + low % 2 ^ k) (add-mul (high * 2 ^ z) (low / 2 ^ k) (2 ^ k))
      ∙ add_assoc (high * 2 ^ z * 2 ^ k) (low / 2 ^ k * 2 ^ k) (low % 2 ^ k)
      ∙ ap (λ (x : ℕ). high * 2 ^ z * 2 ^ k + x) (div-add-mod' low (2 ^ k))
      ∙ ap (λ (x : ℕ). x + low) (mul_right_comm high (2 ^ z) (2 ^ k) ∙ mul_assoc high (2 ^ k) (2 ^ z) ∙ ap (λ (x : ℕ). high * x) both)

-- in the words of a need
pub none_above : (high low : ℕ) → high ≡ 0 → of_int binary64 (pos low) ≡ of_int binary64 (pos (magnitude high low))
none_above high low h = ap (λ (n : ℕ). of_int binary64 (pos n)) (sym (ap (λ (x : ℕ). x * 2 ^ 64 + low) h ∙ zero-add low))

pub none_below : (q k r : ℕ) → r ≡ 0 → of_int binary64 (pos (q * 2 ^ k)) ≡ of_int binary64 (pos (q * 2 ^ k + r))
none_below q k r h = ap (λ (n : ℕ). of_int binary64 (pos n)) (sym (ap (λ (x : ℕ). q * 2 ^ k + x) h ∙ add-zero (q * 2 ^ k)))

pub some_below : (q k r : ℕ) → 2 ^ 63 ≤ q → q < 2 ^ 64 → r < 2 ^ k → (r ≡ 0 → ⊥) → of_int binary64 (pos ((q / 2 * 2 + 1) * 2 ^ k)) ≡ of_int binary64 (pos (q * 2 ^ k + r))
some_below q k r A B R h =
    of_int_is ((q / 2 * 2 + 1) * 2 ^ k)
    ∙ sym (sticky q k r A B (positive r h) R)
    ∙ sym (of_int_is (q * 2 ^ k + r))
  where
    positive : (r : ℕ) → (r ≡ 0 → ⊥) → 0 < r
    positive r h = omega arith

-- the top bit stands at bit 63 already
pub no_shift : (high z : ℕ) → z ≡ 0 → 2 ^ 63 ≤ high * 2 ^ z → 2 ^ 63 ≤ high
no_shift high z h l = subst (λ (x : ℕ). 2 ^ 63 ≤ x) (ap (λ (x : ℕ). high * 2 ^ x) h ∙ mul-one high) l

pub even_lt : (q : ℕ) → q < 2 ^ 64 → q / 2 * 2 < 2 ^ 64
even_lt q h = omega arith

pub odd_lt : (q : ℕ) → q < 2 ^ 64 → q / 2 * 2 + 1 < 2 ^ 64
odd_lt q h = omega arith
