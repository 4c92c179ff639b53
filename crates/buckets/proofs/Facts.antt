-- The shared bucket facts, for numbers of every width: what is shown is at most the value and within 1/128 of it, and is the value
-- itself below 256; index and value are inverse; the order is kept; the index stays below the bucket count. Assumes nothing.
use Rattle.std.proofs.Common.{◌≡◌, ℕ, zero, suc, ◌+◌, ◌-◌, ◌*◌, ◌/◌, ◌%◌, ◌^◌, ◌<◌, ◌≤◌, Bool, true, false, ltb, ◌⊎◌, sym, refl, ap, ◌∙◌, subst, ap₂, inl, inr, ⊎_elim, zero-le, le_trans, le_of_eq, le_refl, lt_of_lt_of_le, lt_of_le_of_lt, mul-le-mul_right, mod-lt, mul_comm, eq-zero-or-pos, eq-or-lt_of_le, div-add-mod', le-div_iff_mul-le, div-mul-le_self, div-one, mul-div_cancel, arith, pow_pos, pow_mono, shl_lt, ltb-false, ltb-true, le-ltb, lt-ltb}
use lib.Pow.{shr_mono}
use Rattle.buckets.specs.Buckets.{pick, bit_length, shift_of, index, value}
use Rattle.buckets.proofs.Length.{length-holds, length-least, length_reaches}
use Rattle.buckets.proofs.Place.{Placed, placed, Only}

-- one number is below another, or not
pub lt_or_ge : (a b : ℕ) → (a < b) ⊎ (b ≤ a)
lt_or_ge a b = go (ltb a b) refl
  where
    go : (t : Bool) → ltb a b ≡ t → (a < b) ⊎ (b ≤ a)
    go true e = inl (ltb-true a b e)
    go false e = inr (ltb-false a b e)

-- the index of a value whose place is known
pub index_at : (v k : ℕ) → Placed v k → index v ≡ 128 * k + v / 2 ^ k
unfolding index
index_at v k p = ap (λ (x : ℕ). 128 * x + v / 2 ^ x) (Only v k p)

pub index_is : (v : ℕ) → index v ≡ 128 * shift_of v + v / 2 ^ shift_of v
index_is v = index_at v (shift_of v) (placed v)

-- below 256 a value is its own index
pub index-small : (v : ℕ) → v < 256 → index v ≡ v
index-small v h = index_at v 0 (record { under = subst (λ (x : ℕ). x < 256) (sym (div-one v)) h; top = λ z. absurd (none z) }) ∙ (omega (arith, div-one v))
  where
    none : zero < zero → ⊥
    none z = omega arith

pub value-small : (i : ℕ) → i < 256 → value i ≡ i
unfolding value
value-small i h = ap (λ (b : Bool). pick b i ((128 + i % 128) * 2 ^ (i / 128 - 1))) (lt-ltb i 256 h)

pub value-large : (i : ℕ) → 256 ≤ i → value i ≡ (128 + i % 128) * 2 ^ (i / 128 - 1)
unfolding value
value-large i h = ap (λ (b : Bool). pick b i ((128 + i % 128) * 2 ^ (i / 128 - 1))) (le-ltb i 256 h)

-- a bucket at shift k with top digits m shows m · 2 ^ k
pub value-at : (k m : ℕ) → m < 256 → (0 < k → 128 ≤ m) → value (128 * k + m) ≡ m * 2 ^ k
value-at k m u t = ⊎_elim flat steep (eq-zero-or-pos k)
  where
    flat : k ≡ zero → value (128 * k + m) ≡ m * 2 ^ k
    flat e = value-small (128 * k + m) (omega arith) ∙ whole ∙ ap (λ (x : ℕ). m * 2 ^ x) (sym e)
      where
        whole : 128 * k + m ≡ m * 2 ^ 0
        whole = omega arith

    steep : 0 < k → value (128 * k + m) ≡ m * 2 ^ k
    steep h = value-large (128 * k + m) (far (t h)) ∙ ap₂ (λ (x y : ℕ). x * 2 ^ y) (digits (t h)) (shift (t h))
      where
        far : 128 ≤ m → 256 ≤ 128 * k + m
        far g = omega arith

        digits : 128 ≤ m → 128 + (128 * k + m) % 128 ≡ m
        digits g = omega arith

        shift : 128 ≤ m → (128 * k + m) / 128 - 1 ≡ k
        shift g = omega arith

-- what is shown for v: its digits above the shift
pub shown : (v : ℕ) → value (index v) ≡ v / 2 ^ shift_of v * 2 ^ shift_of v
shown v = ap value (index_is v) ∙ value-at (shift_of v) (v / 2 ^ shift_of v) (placed v).under (placed v).top

-- v' is at most v
pub shown_le : (v : ℕ) → value (index v) ≤ v
shown_le v = le_trans (le_of_eq (shown v)) (div-mul-le_self v (2 ^ shift_of v))

-- 128·(v - v') is at most v
pub shown-near : (v : ℕ) → 128 * (v - value (index v)) ≤ v
shown-near v = subst (λ (x : ℕ). 128 * (v - x) ≤ v) (sym (shown v)) (⊎_elim flat steep (eq-zero-or-pos (shift_of v)))
  where
    near : (q p r : ℕ) → q * p + r ≡ v → r < p → 128 * p ≤ q * p → 128 * (v - q * p) ≤ v
    near q p r e l g = close (q * p) e g
      where
        close : (x : ℕ) → x + r ≡ v → 128 * p ≤ x → 128 * (v - x) ≤ v
        close x e g = omega arith

    flat : shift_of v ≡ zero → 128 * (v - v / 2 ^ shift_of v * 2 ^ shift_of v) ≤ v
    flat e = subst (λ (x : ℕ). 128 * (v - v / 2 ^ x * 2 ^ x) ≤ v) (sym e) (omega (arith, div-one v))

    steep : 0 < shift_of v → 128 * (v - v / 2 ^ shift_of v * 2 ^ shift_of v) ≤ v
    steep h =
        near (v / 2 ^ shift_of v) (2 ^ shift_of v) (v % 2 ^ shift_of v) (div-add-mod' v (2 ^ shift_of v)) (mod-lt v (pow_pos (shift_of v)))
        (mul-le-mul_right (2 ^ shift_of v) ((placed v).top h))

-- v' equals v below 256
pub shown-small : (v : ℕ) → v < 256 → value (index v) ≡ v
shown-small v h = ap value (index-small v h) ∙ value-small v h

-- the bucket of what a bucket shows is that bucket: index and value are inverse on what is shown
pub index-value : (i : ℕ) → index (value i) ≡ i
index-value i = ⊎_elim small large (lt_or_ge i 256)
  where
    small : i < 256 → index (value i) ≡ i
    small h = ap index (value-small i h) ∙ index-small i h

    large : 256 ≤ i → index (value i) ≡ i
    large h =
        ap index (value-large i h) ∙ index_at ((128 + i % 128) * 2 ^ (i / 128 - 1)) (i / 128 - 1) at ∙ ap (λ (x : ℕ). 128 * (i / 128 - 1) + x) whole ∙ (omega arith)
      where
        whole : (128 + i % 128) * 2 ^ (i / 128 - 1) / 2 ^ (i / 128 - 1) ≡ 128 + i % 128
        whole = mul-div_cancel (128 + i % 128) (pow_pos (i / 128 - 1))

        at : Placed ((128 + i % 128) * 2 ^ (i / 128 - 1)) (i / 128 - 1)
        at = record { under = subst (λ (x : ℕ). x < 256) (sym whole) (omega arith); top = λ h. subst (λ (x : ℕ). 128 ≤ x) (sym whole) (omega arith) }

-- a longer number has at least the shift of a shorter one
shift_le : (v w : ℕ) → v ≤ w → shift_of v ≤ shift_of w
unfolding shift_of
shift_le v w h = less (bit_length v) (bit_length w) (length-least v (bit_length w) (lt_of_le_of_lt h (length-holds w)))
  where
    less : (a b : ℕ) → a ≤ b → a - 8 ≤ b - 8
    less a b h = omega arith

-- the order is kept
pub index_monotone : (v w : ℕ) → v ≤ w → index v ≤ index w
index_monotone v w h =
    le_trans (le_of_eq (index_is v)) (le_trans (⊎_elim same apart (eq-or-lt_of_le (shift_le v w h))) (le_of_eq (sym (index_is w))))
  where
    same : shift_of v ≡ shift_of w → 128 * shift_of v + v / 2 ^ shift_of v ≤ 128 * shift_of w + w / 2 ^ shift_of w
    same e = subst (λ (k : ℕ). 128 * shift_of v + v / 2 ^ shift_of v ≤ 128 * k + w / 2 ^ k) e (omega (arith, shr_mono (shift_of v) h))

    apart : shift_of v < shift_of w → 128 * shift_of v + v / 2 ^ shift_of v ≤ 128 * shift_of w + w / 2 ^ shift_of w
    apart l = far (shift_of v) (shift_of w) (v / 2 ^ shift_of v) (w / 2 ^ shift_of w) l (placed v).under ((placed w).top (lt_of_le_of_lt (zero-le) l))
      where
        far : (a b x y : ℕ) → a < b → x < 256 → 128 ≤ y → 128 * a + x ≤ 128 * b + y
        far a b x y l u t = omega arith

-- over the width: a number of k digits, 8 or more, has an index below 128·(k - 6)
pub index_below : (k v : ℕ) → 8 ≤ k → v < 2 ^ k → index v < 128 * (k - 6)
unfolding shift_of
index_below k v g h =
    subst (λ (x : ℕ). x < 128 * (k - 6)) (sym (index_is v))
    (under (bit_length v) (v / 2 ^ (bit_length v - 8)) (length-least v k h) (placed v).under)
  where
    under : (l x : ℕ) → l ≤ k → x < 256 → 128 * (l - 8) + x < 128 * (k - 6)
    under l x a b = omega arith

-- over the width: a bucket below 128·(k - 6) shows a number of k digits
pub value-below : (k i : ℕ) → 8 ≤ k → i < 128 * (k - 6) → value i < 2 ^ k
value-below k i g h = ⊎_elim small large (lt_or_ge i 256)
  where
    small : i < 256 → value i < 2 ^ k
    small l = lt_of_lt_of_le (subst (λ (x : ℕ). x < 256) (sym (value-small i l)) l) (pow_mono {i = 8} {j = k} g)

    large : 256 ≤ i → value i < 2 ^ k
    large l =
        subst (λ (x : ℕ). x < 2 ^ k) (sym (value-large i l))
        (lt_of_lt_of_le (shl_lt {a = 128 + i % 128} 8 (i / 128 - 1) (omega arith)) (pow_mono {i = 8 + (i / 128 - 1)} {j = k} (omega arith)))

-- a value above 0 is shown above 0
pub shown_positive : (v : ℕ) → 0 < v → 0 < value (index v)
shown_positive v h = some v (value (index v)) h (shown-near v)
  where
    some : (v x : ℕ) → 0 < v → 128 * (v - x) ≤ v → 0 < x
    some v x h n = omega arith
