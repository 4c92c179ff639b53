-- Where a value stands: its shift is the only one that leaves it below 256 and, unless it is 0, at 128 or above. Assumes nothing.
use Rattle.std.proofs.Common.{◌≡◌, ℕ, zero, suc, ◌+◌, ◌-◌, ◌*◌, ◌/◌, ◌^◌, ◌<◌, ◌≤◌, sym, ap, ◌∙◌, subst, ⊎_elim, le_trans, le_of_eq, le_refl, lt_of_lt_of_le, lt_of_le_of_lt, div-lt_iff_lt-mul, eq-zero-or-pos, le_antisymm, le-div_iff_mul-le, div-one, sub-eq-zero_of_le, arith, pow_pos, pow_mono, pow-add, shr_lt}
use Rattle.buckets.specs.Buckets.{bit_length, shift_of}
use Rattle.buckets.proofs.Length.{length-holds, length-least, length_reaches, length-between}

pub record Placed (v k : ℕ) : Type 0 where
  pub under : v / 2 ^ k < 256
  pub top : 0 < k → 128 ≤ v / 2 ^ k

-- every value stands so at its bucket shift
pub placed : (v : ℕ) → Placed v (shift_of v)
unfolding shift_of
placed v = record {
  under = shr_lt 8 (bit_length v - 8) (lt_of_lt_of_le (length-holds v) (pow_mono covers));
  top = λ h. (le-div_iff_mul-le (pow_pos (bit_length v - 8))).1 (le_trans (le_of_eq (sym (pow-add 2 7 (bit_length v - 8)))) (length_reaches v (7 + (bit_length v - 8)) (omega arith)));
}
  where
    covers : bit_length v ≤ 8 + (bit_length v - 8)
    covers = omega arith

-- and at no other
pub Only : (v k : ℕ) → Placed v k → shift_of v ≡ k
unfolding shift_of
Only v k p = ⊎_elim none some (eq-zero-or-pos k)
  where
    none : k ≡ zero → bit_length v - 8 ≡ k
    none e = sub-eq-zero_of_le (length-least v 8 (subst (λ (x : ℕ). x < 256) (div-one v) (subst (λ (x : ℕ). v / 2 ^ x < 256) e p.under))) ∙ sym e

    some : 0 < k → bit_length v - 8 ≡ k
    some h = ap (λ (x : ℕ). x - 8) (length-between v (7 + k) low high) ∙ (omega arith)
      where
        low : 2 ^ (7 + k) ≤ v
        low = subst (λ (x : ℕ). x ≤ v) (sym (pow-add 2 7 k)) ((le-div_iff_mul-le (pow_pos k)).0 (p.top h))

        high : v < 2 ^ suc (7 + k)
        high = subst (λ (x : ℕ). v < 2 ^ x) (eights k) (subst (λ (x : ℕ). v < x) (sym (pow-add 2 8 k)) ((div-lt_iff_lt-mul (pow_pos k)).0 p.under))
          where
            eights : (n : ℕ) → 8 + n ≡ suc (7 + n)
            eights n = omega arith
