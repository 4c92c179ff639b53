-- The binary digits of a number in a list: in parts, and of each length. Assumes nothing.
use mathlib.Core.Path.{◌≡◌, refl, sym, ap, ap₂, ◌∙◌, subst}
use mathlib.Core.List.{List, ◌∷◌, ◌++◌}
use Prim.Native.Nat.{ℕ, zero, suc, ◌+◌, ◌*◌, ◌/◌, ◌%◌, ◌^◌, ◌<◌}
use native.Mathlib.Nat.{zero-add, suc-add, mod-lt, mod-eq_of_lt}
use native.Mathlib.Omega.{arith}
use lib.ListN.{length}
use lib.Pow.{pow_pos, high, low, split, field, mod-mod-pow, shr-shr}
use Rattle.bit_runs.specs.Bits.{bits_of}

pub bits_length : (k n : ℕ) → length (bits_of k n) ≡ k
unfolding bits_of
bits_length zero n = refl
bits_length (suc k) n = ap suc (bits_length k n)

one_more : (k : ℕ) → 1 + k ≡ suc k
one_more k = omega arith

-- the digit above k others
digit_at : (k n : ℕ) → n / 2 ^ k % 2 ≡ n % 2 ^ suc k / 2 ^ k
digit_at k n = sym (subst (λ (j : ℕ). n % 2 ^ j / 2 ^ k ≡ n / 2 ^ k % 2) (one_more k) (field n 1 k))

lower : (k n : ℕ) → n % 2 ^ suc k % 2 ^ k ≡ n % 2 ^ k
lower k n = subst (λ (j : ℕ). n % 2 ^ j % 2 ^ k ≡ n % 2 ^ k) (one_more k) (mod-mod-pow n 1 k)

-- only the k lowest digits count
pub bits_same : (k m n : ℕ) → m % 2 ^ k ≡ n % 2 ^ k → bits_of k m ≡ bits_of k n
unfolding bits_of
bits_same zero m n e = refl
bits_same (suc k) m n e =
    ap₂ (λ (b : ℕ) (bs : List ℕ). b ∷ bs)
    (digit_at k m ∙ ap (λ (x : ℕ). x / 2 ^ k) e ∙ sym (digit_at k n))
    (bits_same k m n (sym (lower k m) ∙ ap (λ (x : ℕ). x % 2 ^ k) e ∙ lower k n))

-- the digits of a above, and the k digits of b below
pub bits_cat : (j k a b : ℕ) → b < 2 ^ k → bits_of (j + k) (a * 2 ^ k + b) ≡ bits_of j a ++ bits_of k b
unfolding bits_of
bits_cat zero k a b h = rw (zero-add k) (bits_same k (a * 2 ^ k + b) b (low a k h ∙ sym (mod-eq_of_lt h)))
bits_cat (suc j) k a b h =
    ap (λ (m : ℕ). bits_of m (a * 2 ^ k + b)) (suc-add j k)
    ∙ ap₂ (λ (x : ℕ) (bs : List ℕ). x ∷ bs)
    (ap (λ (x : ℕ). x % 2) (shifted (j + k) (omega arith) ∙ ap (λ (x : ℕ). x / 2 ^ j) (high a k h)))
    (bits_cat j k a b h)
  where
    shifted : (m : ℕ) → m ≡ k + j → (a * 2 ^ k + b) / 2 ^ m ≡ (a * 2 ^ k + b) / 2 ^ k / 2 ^ j
    shifted m e = ap (λ (x : ℕ). (a * 2 ^ k + b) / 2 ^ x) e ∙ sym (shr-shr (a * 2 ^ k + b) k j)

-- the same of a number: its digits from the k-th on, and those below
pub bits_split : (j k n : ℕ) → bits_of (j + k) n ≡ bits_of j (n / 2 ^ k) ++ bits_of k (n % 2 ^ k)
bits_split j k n = ap (bits_of (j + k)) (sym (split n k)) ∙ bits_cat j k (n / 2 ^ k) (n % 2 ^ k) (mod-lt n (pow_pos k))
