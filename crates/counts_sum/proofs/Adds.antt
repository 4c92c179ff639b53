-- The sum of counts, none of which is large: modulo 2^64 it is the sum itself. Assumes nothing.
use Rattle.std.proofs.Common.{◌≡◌, ℕ, ◌+◌, ◌*◌, ◌%◌, ◌^◌, ◌<◌, ◌≤◌, eqb, ap, ◌∙◌, le_trans, mul-le-mul_right, mod-eq_of_lt, mul-le-mul_left, arith}
use lib.Bits.{bit_or, bit_and, or_add_and, and_le_l, and_le_r}

-- one count more: each is at most the digits that any of them has
pub adds_next : (i t any x : ℕ) → t ≤ i * any → t + x ≤ (i + 1) * bit_or any x
adds_next i t any x h =
    omega
    (arith, h, mul-le-mul_left i (left any x (bit_or any x) (bit_and any x) (or_add_and any x) (and_le_r any x)), right any x (bit_or any x) (bit_and any x) (or_add_and any x) (and_le_l any x))
  where
    left : (a x o n : ℕ) → o + n ≡ a + x → n ≤ x → a ≤ o
    left a x o n e h = omega arith

    right : (a x o n : ℕ) → o + n ≡ a + x → n ≤ a → x ≤ o
    right a x o n e h = omega arith

pub sum_next : (t x sum next : ℕ) → sum ≡ t % 2 ^ 64 → next ≡ (sum + x) % 2 ^ 64 → next ≡ (t + x) % 2 ^ 64
sum_next t x sum next e f = omega arith

-- at most 65,536 counts below 2^48 do not pass a word
pub adds_up : (i n t any sum number : ℕ) → i ≤ n → n ≤ 65536 → t ≤ i * any → any < 2 ^ 48 → sum ≡ t % 2 ^ 64 → eqb sum number ≡ eqb t number
adds_up i n t any sum number l m h a e = ap (λ (x : ℕ). eqb x number) (e ∙ mod-eq_of_lt (below i n t any l m (le_trans h (mul-le-mul_right any (le_trans l m))) a))
  where
    below : (i n t any : ℕ) → i ≤ n → n ≤ 65536 → t ≤ 65536 * any → any < 2 ^ 48 → t < 2 ^ 64
    below i n t any l m h a = omega arith
