-- The bucket facts for words of both kinds: the index stays below the bucket count and keeps the order, and what is shown is within
-- 1/128 of the magnitude. The signed ones rest on those of the magnitude. Assumes nothing.
use Rattle.std.proofs.Common.{◌≡◌, ℕ, ◌+◌, ◌-◌, ◌*◌, ◌/◌, ◌%◌, ◌^◌, ◌<◌, ◌≤◌, Bool, true, false, ltb, sym, refl, ap, ◌∙◌, subst, ⊎_elim, le_trans, le_of_eq, arith, le-ltb, lt-ltb}
use lib.Ieee.{size}
use Rattle.buckets.specs.Buckets.{pick, bit_length, shift_of, index, value}
use Rattle.buckets.specs.Signed.{signed_zero, bucket_count, magnitude, order, gap, index_of, value_of}
use Rattle.buckets.proofs.Facts.{lt_or_ge, index-small, index-value, index_monotone, index_below, shown_le, shown-near, shown_positive, value-below}

pub pick-below : (a b x y : ℕ) → a < b → pick (ltb a b) x y ≡ x
pick-below a b x y h = ap (λ (t : Bool). pick t x y) (lt-ltb a b h)

pub pick-above : (a b x y : ℕ) → b ≤ a → pick (ltb a b) x y ≡ y
pick-above a b x y h = ap (λ (t : Bool). pick t x y) (le-ltb a b h)

-- what the definitions say of a word that is not negative, and of one that is
pub order-low : (w : ℕ) → w < 2 ^ 63 → order true w ≡ w + 2 ^ 63
order-low w h = omega arith

pub order-high : (w : ℕ) → w < 2 ^ 64 → 2 ^ 63 ≤ w → order true w ≡ w - 2 ^ 63
order-high w l h = omega arith

pub magnitude-low : (w : ℕ) → w < 2 ^ 63 → magnitude true w ≡ w
magnitude-low w h = pick-below w (2 ^ 63) w (2 ^ 64 - w) h

pub magnitude-high : (w : ℕ) → 2 ^ 63 ≤ w → magnitude true w ≡ 2 ^ 64 - w
magnitude-high w h = pick-above w (2 ^ 63) w (2 ^ 64 - w) h

pub index-low : (w : ℕ) → w < 2 ^ 63 → index_of true w ≡ signed_zero + index w
index-low w h = pick-below w (2 ^ 63) (signed_zero + index w) (signed_zero - index (2 ^ 64 - w)) h

pub index-high : (w : ℕ) → 2 ^ 63 ≤ w → index_of true w ≡ signed_zero - index (2 ^ 64 - w)
index-high w h = pick-above w (2 ^ 63) (signed_zero + index w) (signed_zero - index (2 ^ 64 - w)) h

pub value_low : (i : ℕ) → i < signed_zero → value_of true i ≡ 2 ^ 64 - value (signed_zero - i)
value_low i h = pick-below i signed_zero (2 ^ 64 - value (signed_zero - i)) (value (i - signed_zero)) h

pub value-high : (i : ℕ) → signed_zero ≤ i → value_of true i ≡ value (i - signed_zero)
value-high i h = pick-above i signed_zero (2 ^ 64 - value (signed_zero - i)) (value (i - signed_zero)) h

-- the largest magnitude of a signed word has the index 7,296
pub top_index : index (2 ^ 63) ≡ signed_zero
unfolding index shift_of bit_length size
top_index = refl

pub magnitude_index_le : (m : ℕ) → m ≤ 2 ^ 63 → index m ≤ signed_zero
magnitude_index_le m h = le_trans (index_monotone m (2 ^ 63) h) (le_of_eq top_index)

-- only 0 has the index 0
pub index_positive : (m : ℕ) → 0 < m → 0 < index m
unfolding value
index_positive m h = ⊎_elim (λ l. below l) (λ g. g) (lt_or_ge (index m) 1)
  where
    zero_shown : (x : ℕ) → x < 1 → x ≡ 0
    zero_shown x l = omega arith

    nothing : value 0 ≡ 0
    nothing = refl

    below : index m < 1 → 0 < index m
    below l = absurd (never (value (index m)) (ap value (zero_shown (index m) l) ∙ nothing) (shown_positive m h))
      where
        never : (x : ℕ) → x ≡ 0 → 0 < x → ⊥
        never x e p = omega arith

-- only the bucket 0 shows 0
pub value_positive : (i : ℕ) → 0 < i → 0 < value i
value_positive i h = ⊎_elim none (λ g. g) (lt_or_ge (value i) 1)
  where
    zero_index : (x : ℕ) → x < 1 → x ≡ 0
    zero_index x l = omega arith

    none : value i < 1 → 0 < value i
    none l = absurd (never i (sym (index-value i) ∙ ap index (zero_index (value i) l) ∙ index-small 0 (omega arith)) h)
      where
        never : (x : ℕ) → x ≡ 0 → 0 < x → ⊥
        never x e p = omega arith

-- the index stays below the bucket count
pub index_of-below : (s : Bool) (w : ℕ) → w < 2 ^ 64 → index_of s w < bucket_count s
index_of-below false w h = index_below 64 w (omega arith) h
index_of-below true w h = ⊎_elim low high (lt_or_ge w (2 ^ 63))
  where
    under : (x : ℕ) → w < 2 ^ 63 → index w ≤ signed_zero → x ≡ signed_zero + index w → x < 14593
    under x l b e = omega arith

    over : (x y : ℕ) → x ≡ signed_zero - y → x < 14593
    over x y e = omega arith

    low : w < 2 ^ 63 → index_of true w < bucket_count true
    low l = under (index_of true w) l (magnitude_index_le w (omega arith)) (index-low w l)

    high : 2 ^ 63 ≤ w → index_of true w < bucket_count true
    high g = over (index_of true w) (index (2 ^ 64 - w)) (index-high w g)

-- the index keeps the order of the values
pub index_of_monotone : (s : Bool) (a b : ℕ) → a < 2 ^ 64 → b < 2 ^ 64 → order s a ≤ order s b → index_of s a ≤ index_of s b
index_of_monotone false a b ha hb h = index_monotone a b h
index_of_monotone true a b ha hb h =
    ⊎_elim (λ la. ⊎_elim (low-low la) (low-high la) (lt_or_ge b (2 ^ 63))) (λ ga. ⊎_elim (high-low ga) (high-high ga) (lt_or_ge b (2 ^ 63)))
    (lt_or_ge a (2 ^ 63))
  where
    sums : (x y i j : ℕ) → i ≤ j → x ≡ signed_zero + i → y ≡ signed_zero + j → x ≤ y
    sums x y i j l e f = omega arith

    rests : (x y i j : ℕ) → j ≤ i → x ≡ signed_zero - i → y ≡ signed_zero - j → x ≤ y
    rests x y i j l e f = omega arith

    across : (x y i j : ℕ) → x ≡ signed_zero - i → y ≡ signed_zero + j → x ≤ y
    across x y i j e f = omega arith

    low-low : a < 2 ^ 63 → b < 2 ^ 63 → index_of true a ≤ index_of true b
    low-low la lb = sums (index_of true a) (index_of true b) (index a) (index b) (index_monotone a b (omega (arith, order-low a la, order-low b lb))) (index-low a la) (index-low b lb)

    low-high : a < 2 ^ 63 → 2 ^ 63 ≤ b → index_of true a ≤ index_of true b
    low-high la gb = absurd (never (order-low a la) (order-high b hb gb))
      where
        never : order true a ≡ a + 2 ^ 63 → order true b ≡ b - 2 ^ 63 → ⊥
        never e f = omega arith

    high-low : 2 ^ 63 ≤ a → b < 2 ^ 63 → index_of true a ≤ index_of true b
    high-low ga lb = across (index_of true a) (index_of true b) (index (2 ^ 64 - a)) (index b) (index-high a ga) (index-low b lb)

    high-high : 2 ^ 63 ≤ a → 2 ^ 63 ≤ b → index_of true a ≤ index_of true b
    high-high ga gb =
        rests (index_of true a) (index_of true b) (index (2 ^ 64 - a)) (index (2 ^ 64 - b))
        (index_monotone (2 ^ 64 - b) (2 ^ 64 - a) (omega (arith, order-high a ha ga, order-high b hb gb)))
        (index-high a ga) (index-high b gb)

-- what a word's bucket shows, by the magnitude's
pub shown-low : (w : ℕ) → w < 2 ^ 63 → value_of true (index_of true w) ≡ value (index w)
shown-low w l =
    ap (value_of true) (index-low w l) ∙ value-high (signed_zero + index w) (omega arith) ∙ ap value (back (index w))
  where
    back : (i : ℕ) → signed_zero + i - signed_zero ≡ i
    back i = omega arith

pub shown-high : (w : ℕ) → 2 ^ 63 ≤ w → w < 2 ^ 64 → value_of true (index_of true w) ≡ 2 ^ 64 - value (index (2 ^ 64 - w))
shown-high w g h =
    ap (value_of true) (index-high w g) ∙ value_low (signed_zero - index (2 ^ 64 - w)) (under (index (2 ^ 64 - w)) (index_positive (2 ^ 64 - w) (omega arith)))
    ∙ ap (λ (x : ℕ). 2 ^ 64 - value x) (back (index (2 ^ 64 - w)) (magnitude_index_le (2 ^ 64 - w) (omega arith)))
  where
    under : (i : ℕ) → 0 < i → signed_zero - i < signed_zero
    under i p = omega arith

    back : (i : ℕ) → i ≤ signed_zero → signed_zero - (signed_zero - i) ≡ i
    back i b = omega arith

-- 128 times what is lost is at most the magnitude
pub shown_of-near : (s : Bool) (w : ℕ) → w < 2 ^ 64 → 128 * gap s w (value_of s (index_of s w)) ≤ magnitude s w
shown_of-near false w h = near (value (index w)) (shown_le w) (shown-near w)
  where
    near : (x : ℕ) → x ≤ w → 128 * (w - x) ≤ w → 128 * ((w - x) + (x - w)) ≤ w
    near x l n = omega arith
shown_of-near true w h = ⊎_elim low high (lt_or_ge w (2 ^ 63))
  where
    low_near : (x y ow oy m : ℕ) → w < 2 ^ 63 → x ≤ w → 128 * (w - x) ≤ w → y ≡ x → ow ≡ w + 2 ^ 63 → oy ≡ y + 2 ^ 63 → m ≡ w → 128 * ((ow - oy) + (oy - ow)) ≤ m
    low_near x y ow oy m l a n e f g k = omega arith

    sums : (v x y ow oy m : ℕ) → v + w ≡ 2 ^ 64 → x ≤ v → 128 * (v - x) ≤ v → y + x ≡ 2 ^ 64 → ow + 2 ^ 63 ≡ w → oy + 2 ^ 63 ≡ y → m ≡ v → 128 * ((ow - oy) + (oy - ow)) ≤ m
    sums v x y ow oy m d a n e f g k = omega arith

    back : (a b c : ℕ) → c ≤ b → a ≡ b - c → a + c ≡ b
    back a b c l e = omega arith

    high-near : (v x y ow oy m : ℕ) → v ≡ 2 ^ 64 - w → 2 ^ 63 ≤ w → x ≤ v → 128 * (v - x) ≤ v → y ≡ 2 ^ 64 - x → 2 ^ 63 ≤ y → ow ≡ w - 2 ^ 63 → oy ≡ y - 2 ^ 63 → m ≡ v → 128 * ((ow - oy) + (oy - ow)) ≤ m
    high-near v x y ow oy m d l a n e ly f g k =
        sums v x y ow oy m whole a n (back y (2 ^ 64) x (fits whole) e) (back ow w (2 ^ 63) l f) (back oy y (2 ^ 63) ly g) k
      where
        whole : v + w ≡ 2 ^ 64
        whole = back v (2 ^ 64) w (omega (arith, h)) d

        fits : v + w ≡ 2 ^ 64 → x ≤ 2 ^ 64
        fits t = le_trans a (omega arith)

    low : w < 2 ^ 63 → 128 * gap true w (value_of true (index_of true w)) ≤ magnitude true w
    low l =
        low_near (value (index w)) (value_of true (index_of true w)) (order true w) (order true (value_of true (index_of true w))) (magnitude true w) l (shown_le w) (shown-near w)
        (shown-low w l) (order-low w l) (order-low (value_of true (index_of true w)) (small (value_of true (index_of true w)) (value (index w)) (shown-low w l) (shown_le w))) (magnitude-low w l)
      where
        small : (y x : ℕ) → y ≡ x → x ≤ w → y < 2 ^ 63
        small y x e a = omega arith

    high : 2 ^ 63 ≤ w → 128 * gap true w (value_of true (index_of true w)) ≤ magnitude true w
    high g =
        high-near (2 ^ 64 - w) (value (index (2 ^ 64 - w))) (value_of true (index_of true w)) (order true w) (order true (value_of true (index_of true w))) (magnitude true w) refl g
        (shown_le (2 ^ 64 - w)) (shown-near (2 ^ 64 - w)) (shown-high w g h) negative (order-high w h g) (order-high (value_of true (index_of true w)) (shown-fits (value_of true (index_of true w)) (value (index (2 ^ 64 - w))) (shown-high w g h) (shown_positive (2 ^ 64 - w) (omega arith))) negative) (magnitude-high w g)
      where
        large : (y x : ℕ) → y ≡ 2 ^ 64 - x → x ≤ 2 ^ 64 - w → 2 ^ 63 ≤ y
        large y x e a = omega arith

        shown-fits : (y x : ℕ) → y ≡ 2 ^ 64 - x → 0 < x → y < 2 ^ 64
        shown-fits y x e p = omega arith

        negative : 2 ^ 63 ≤ value_of true (index_of true w)
        negative = large (value_of true (index_of true w)) (value (index (2 ^ 64 - w))) (shown-high w g h) (shown_le (2 ^ 64 - w))
