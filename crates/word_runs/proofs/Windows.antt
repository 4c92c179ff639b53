-- Ones in a row inside a number, and what is left of them in the number and its shifts, taken together. Assumes nothing.
use mathlib.Core.Path.{◌≡◌, refl, sym, ap, ap₂, ◌∙◌, subst}
use mathlib.Core.Bool.{Bool, true, false}
use mathlib.Core.List.{◌∷◌}
use mathlib.Core.Logic.{◌⊎◌, inl, inr, ⊎_elim}
use Prim.Native.Nat.{ℕ, zero, suc, ◌+◌, ◌-◌, ◌*◌, ◌/◌, ◌%◌, ◌^◌, ◌≤◌, max}
use native.Mathlib.Nat.{mod-lt, mod-one, add_assoc, add_comm, le_trans, zero-div, max-eq_left, max-eq_right, le_of_suc-le-suc, lt_of_not-le}
use native.Mathlib.Numerals.{add-one}
use native.Mathlib.Omega.{arith}
use lib.Dec.{leb}
use lib.Bits.{bit_and, and_shr, and_mod, and_self}
use lib.Pow.{field, mod-mod-pow, mod-pow-add, shr-shr, ones_lt, ones_split, high, low}
use borrow.Author.Tests.{leb-true, leb-false}
use lib.ListN.{length}
use Rattle.bit_runs.specs.Bits.{bits_of, ones_of, longest_from}

-- n ones in a row, the lowest of them at place i
abbrev pub OnesAt : (x i n : ℕ) → Type 0
OnesAt x i n = x / 2 ^ i % 2 ^ n ≡ 2 ^ n - 1

ones_high : (j k : ℕ) → (2 ^ (j + k) - 1) / 2 ^ k ≡ 2 ^ j - 1
ones_high j k = ap (λ (m : ℕ). m / 2 ^ k) (ones_split j k) ∙ high (2 ^ j - 1) k (ones_lt k)

ones_low : (j k : ℕ) → (2 ^ (j + k) - 1) % 2 ^ k ≡ 2 ^ k - 1
ones_low j k = ap (λ (m : ℕ). m % 2 ^ k) (ones_split j k) ∙ low (2 ^ j - 1) k (ones_lt k)

-- the lower ones of a row, and the upper ones
pub lower_ones : (x i j k : ℕ) → OnesAt x i (j + k) → OnesAt x i k
lower_ones x i j k h = sym (mod-mod-pow (x / 2 ^ i) j k) ∙ ap (λ (m : ℕ). m % 2 ^ k) h ∙ ones_low j k

pub upper_ones : (x i j k : ℕ) → OnesAt x i (j + k) → x / 2 ^ i / 2 ^ k % 2 ^ j ≡ 2 ^ j - 1
upper_ones x i j k h = sym (field (x / 2 ^ i) j k) ∙ ap (λ (m : ℕ). m / 2 ^ k) h ∙ ones_high j k

-- a row of n + m ones leaves n ones where the number and its shift by m both have one
pub met : (x i n m : ℕ) → OnesAt x i (n + m) → OnesAt (bit_and x (x / 2 ^ m)) i n
met x i n m h =
    ap (λ (y : ℕ). y % 2 ^ n) (and_shr x (x / 2 ^ m) i)
    ∙ and_mod (x / 2 ^ i) (x / 2 ^ m / 2 ^ i) n
    ∙ ap₂ bit_and
    (lower_ones x i m n (subst (OnesAt x i) (add_comm n m) h))
    (ap (λ (y : ℕ). y % 2 ^ n) (swapped x m i) ∙ upper_ones x i n m h)
    ∙ and_self (2 ^ n - 1)
  where
    swapped : (x j k : ℕ) → x / 2 ^ j / 2 ^ k ≡ x / 2 ^ k / 2 ^ j
    swapped x j k = shr-shr x j k ∙ ap (λ (n : ℕ). x / 2 ^ n) (add_comm j k) ∙ sym (shr-shr x k j)

-- nothing has no ones
pub none-at : (i : ℕ) → OnesAt 0 i 1 → ⊥
none-at i h = let z : ◌≡◌ {A = ℕ} 0 1 = sym (ap (λ (m : ℕ). m % 2) (zero-div (2 ^ i))) ∙ h in omega arith

-- one digit more below a row
longer : (x k r : ℕ) → OnesAt x (suc k) r → x / 2 ^ k % 2 ≡ 1 → OnesAt x k (suc r)
longer x k r h b =
    subst (λ (n : ℕ). OnesAt x k n) (add-one r)
    (mod-pow-add (x / 2 ^ k) r 1
    ∙ ap₂ (λ (m n : ℕ). m * 2 + n) (ap (λ (m : ℕ). m % 2 ^ r) (shr-shr x k 1 ∙ ap (λ (n : ℕ). x / 2 ^ n) (add-one k)) ∙ h) b
    ∙ sym (ones_split r 1))

-- The longest run of a number's digits is somewhere in the number.
pub located : (k x r : ℕ) → OnesAt x k r → (i : ℕ) × OnesAt x i (longest_from r (bits_of k x))
unfolding bits_of longest_from
located zero x r h = (0, h)
located (suc k) x r h = go (located k x 0 (mod-one (x / 2 ^ k))) (λ e. located k x (suc r) (longer x k r h e)) (x / 2 ^ k % 2) refl
  where
    greater : (m : ℕ) → (i : ℕ) × OnesAt x i m → (i : ℕ) × OnesAt x i (max r m)
    greater m t =
        ⊎_elim
        (λ (l : r ≤ m). (t.0, subst (OnesAt x t.0) (sym (max-eq_right l)) t.1))
        (λ (l : m ≤ r). (suc k, subst (OnesAt x (suc k)) (sym (max-eq_left l)) h))
        (either (leb r m) refl)
      where
        either : (b : Bool) → leb r m ≡ b → (r ≤ m) ⊎ (m ≤ r)
        either true e = inl (leb-true r m e)
        either false e = inr (omega (arith, leb-false r m e))

    go : (i : ℕ) × OnesAt x i (longest_from 0 (bits_of k x)) → (x / 2 ^ k % 2 ≡ 1 → (i : ℕ) × OnesAt x i (longest_from (suc r) (bits_of k x)))
        → (b : ℕ) → x / 2 ^ k % 2 ≡ b → (i : ℕ) × OnesAt x i (longest_from r (x / 2 ^ k % 2 ∷ bits_of k x))
    go off on zero e = subst (λ (b : ℕ). (i : ℕ) × OnesAt x i (longest_from r (b ∷ bits_of k x))) (sym e) (greater (longest_from 0 (bits_of k x)) off)
    go off on (suc zero) e = subst (λ (b : ℕ). (i : ℕ) × OnesAt x i (longest_from r (b ∷ bits_of k x))) (sym e) (on e)
    go off on (suc (suc b)) e = absurd (omega (arith, mod-lt (x / 2 ^ k) {m = 2} (omega arith)))

-- No run in the digits is longer than n where there are no n + 1 ones in a row.
pub bounded : (k x n : ℕ) → ((i : ℕ) → OnesAt x i (suc n) → ⊥) → longest_from 0 (bits_of k x) ≤ n
bounded k x n never = le_of_suc-le-suc (lt_of_not-le (λ (l : suc n ≤ longest_from 0 (bits_of k x)). found l))
  where
    t : (i : ℕ) × OnesAt x i (longest_from 0 (bits_of k x))
    t = located k x 0 (mod-one (x / 2 ^ k))

    found : suc n ≤ longest_from 0 (bits_of k x) → ⊥
    found l =
        never t.0
        (lower_ones x t.0 (longest_from 0 (bits_of k x) - suc n) (suc n)
        (subst (OnesAt x t.0) (omega arith) t.1))

-- y has ones where ones stand in a row in x, m fewer of them
abbrev pub Leaves : (x y m : ℕ) → Type 0
Leaves x y m = (i n : ℕ) → OnesAt x i (n + m) → OnesAt y i n

pub left_by : (x y m : ℕ) → y ≡ bit_and x (x / 2 ^ m) → Leaves x y m
left_by x y m e i n h = subst (λ (z : ℕ). OnesAt z i n) (sym e) (met x i n m h)

pub then_by : (x y z m j : ℕ) → Leaves x y m → z ≡ bit_and y (y / 2 ^ j) → Leaves x z (j + m)
then_by x y z m j l e i n h = left_by y z j e i n (l i (n + j) (subst (OnesAt x i) (sym (add_assoc n j m)) h))

-- where nothing is left, no run was longer
pub none_left : (k x y m known : ℕ) → Leaves x y m → m ≤ known → y ≡ 0 → longest_from 0 (bits_of k x) ≤ known
none_left k x y m known l h e =
    le_trans
    (bounded k x m (λ (i : ℕ) (a : OnesAt x i (suc m)). none-at i (subst (λ (z : ℕ). OnesAt z i 1) e (l i 1 (subst (OnesAt x i) (omega arith) a)))))
    h

-- a bit is 0 or 1
pub bits_fair : (k n : ℕ) → ones_of (bits_of k n) ≤ length (bits_of k n)
unfolding bits_of ones_of
bits_fair zero n = omega arith
bits_fair (suc k) n = omega (arith, bits_fair k n, mod-lt (n / 2 ^ k) {m = 2} (omega arith))
