-- What the proof of `round_half_away` cites: twice an f64 is exact, and what its whole part is. Assumes nothing.
use Rattle.std.proofs.Common.{◌≡◌, ℕ, zero, suc, ◌+◌, ◌-◌, ◌*◌, ◌/◌, ◌%◌, ◌^◌, ◌<◌, ◌≤◌, min, Bool, true, false, not, ◌&&◌, T, eqb, ltb, leb, ℤ, pos, negsuc, sym, refl, ap, ◌∙◌, subst, true≢false, le_of_eq, lt_of_lt_of_le, lt_of_le_of_lt, zero-lt-suc, mul_assoc, mul_comm, div-lt_iff_lt-mul, lt_of_mul-lt-mul_right, mul-lt-mul_of_pos_right, mul-pos, one-mul, lt_of_not-le, le-div_iff_mul-le, mul-one, mul_right_comm, not-le_of_lt, arith, ltb→lt, lt→ltb, leb→le, nltb→le, pow_pos, pow_mono, pow-add, shl_lt}
use mathlib.Core.Bool.{false≢true}
use native.Mathlib.Nat.{div-div-eq-div-mul, add-mul-div_right, div-eq_of_lt}
use lib.Pow.{pow-lt}
use lib.Ieee.{Float, nan, inf, fin, binary64, up, down, round, add, sum, lt, fits, to_unsigned, of_bits}
use lib.Ieee.Fits.{down_pos, and_l, and_r}
use lib.Ieee.Exact.{HasValue, round_exact}
use lib.Ieee.Scale.{round_same}
use lib.Ieee.Nearest.{div_same}
use Rattle.floats.specs.Half.{half_up, round_to}

-- ---- what fitting says
facts : (m : ℕ) (e : ℤ) → T (fits binary64 (fin false (suc m) e)) → (suc m < 2 ^ 53) × (down e ≤ 2 ^ 1074)
unfolding fits
facts m e t =
    let a = eqb (suc m % 2) 1 in
    let b = ltb (suc m) (2 ^ 53) in
    let c = leb (down e) (2 ^ 1074) in
    let d = ltb (suc m * up e) (2 ^ 1024 * down e) in
    (ltb→lt (suc m) (2 ^ 53) (and_r a b (and_l (a && b) c (and_l (a && b && c) d t))), leb→le (down e) (2 ^ 1074) (and_r (a && b) c (and_l (a && b && c) d t)))

-- ---- twice a float, rounded, is twice the float
double_round : (m : ℕ) (e : ℤ) → m < 2 ^ 53 → down e ≤ 2 ^ 1074 → m * up e < 2 ^ 63 * down e → HasValue (round binary64 false (2 * (m * up e)) (down e)) false (2 * (m * up e)) (down e)
double_round m (pos k) M D S =
    round_exact binary64 false (2 * (m * 2 ^ k)) 1 m (k + 1075) (zero-lt-suc 0) M
    (lt_of_lt_of_le (subst (λ (x : ℕ). x < 2 ^ (63 + 1075)) (shifted m k) (shl_lt 63 1075 S)) (pow_mono room))
    (twice (m * 2 ^ k) ∙ shifted m k ∙ sym (mul-one (m * 2 ^ (k + 1075))))
  where
    room : 63 + 1075 ≤ 2098
    room = omega arith

    shifted : (m k : ℕ) → m * 2 ^ k * 2 ^ 1075 ≡ m * 2 ^ (k + 1075)
    shifted m k = mul_assoc m (2 ^ k) (2 ^ 1075) ∙ ap (λ (x : ℕ). m * x) (sym (pow-add 2 k 1075))

    twice : (n : ℕ) → 2 * n * 2 ^ 1074 ≡ n * 2 ^ 1075
    twice n = ap (λ (x : ℕ). x * 2 ^ 1074) (mul_comm 2 n) ∙ mul_assoc n 2 (2 ^ 1074)
double_round m (negsuc k) M D S =
    round_exact binary64 false (2 * (m * 1)) (2 ^ suc k) m (1074 - k) (pow_pos (suc k)) M
    (lt_of_lt_of_le (shl_lt 53 (1074 - k) M) (pow_mono (room k)))
    (twice (m * 1) ∙ ap (λ (x : ℕ). x * 2 ^ 1075) (mul-one m) ∙ sym (mul_assoc m (2 ^ (1074 - k)) (2 ^ suc k) ∙ ap (λ (x : ℕ). m * x) (sym (pow-add 2 (1074 - k) (suc k)) ∙ ap (λ (x : ℕ). 2 ^ x) (join k (least k D)))))
  where
    room : (k : ℕ) → 53 + (1074 - k) ≤ 2098
    room k = omega arith

    twice : (n : ℕ) → 2 * n * 2 ^ 1074 ≡ n * 2 ^ 1075
    twice n = ap (λ (x : ℕ). x * 2 ^ 1074) (mul_comm 2 n) ∙ mul_assoc n 2 (2 ^ 1074)

    least : (k : ℕ) → 2 ^ suc k ≤ 2 ^ 1074 → k < 1074
    least k h = lt_of_not-le (λ (g : 1074 ≤ k). not-le_of_lt (pow-lt (more k g)) h)
      where
        more : (k : ℕ) → 1074 ≤ k → 1074 < suc k
        more k h = omega arith

    join : (k : ℕ) → k < 1074 → 1074 - k + suc k ≡ 1075
    join k h = omega arith

double_val : (m : ℕ) (e : ℤ) → T (fits binary64 (fin false (suc m) e)) → suc m * up e < 2 ^ 63 * down e
    → HasValue (add binary64 (fin false (suc m) e) (fin false (suc m) e)) false (2 * (suc m * up e)) (down e)
unfolding add sum
double_val m e F S =
    let n = suc m * up e in
    let d = down e in
    subst (λ (x : Float). HasValue x false (2 * n) d)
    (sym (round_same binary64 false (n * d + n * d) (d * d) (2 * n) d (mul-pos (down_pos e) (down_pos e)) (down_pos e) (same n d)))
    (double_round (suc m) e (facts m e F).0 (facts m e F).1 S)
  where
    same : (n d : ℕ) → (n * d + n * d) * d ≡ 2 * n * (d * d)
    same n d = ap (λ (x : ℕ). x * d) (two (n * d)) ∙ ap (λ (x : ℕ). x * d) (sym (mul_assoc 2 n d)) ∙ mul_assoc (2 * n) d d
      where
        two : (x : ℕ) → x + x ≡ 2 * x
        two x = omega arith

-- ---- what `truncating_f64_to_u64` asks and gives, of a float that is a / c
abbrev pub Cut : Float → ℕ → ℕ → Type 0
Cut y a c = T (lt (fin true 1 (pos 0)) y) × T (lt y (fin false 1 (pos 64))) × (to_unsigned 64 y ≡ a / c)

cut_of : (y : Float) (a c : ℕ) → 0 < c → HasValue y false a c → a < 2 ^ 64 * c → Cut y a c
unfolding lt to_unsigned
cut_of nan a c C h l = absurd h
cut_of (inf s) a c C h l = absurd h
cut_of (fin true m e) a c C h l = absurd (true≢false h.0)
cut_of (fin false m e) a c C h l =
    let n = m * up e in
    let d = down e in
    let u : n < 2 ^ 64 * d = lt_of_mul-lt-mul_right c (lt_of_le_of_lt (le_of_eq h.1) (lt_of_lt_of_le (mul-lt-mul_of_pos_right l (down_pos e)) (le_of_eq (mul_right_comm (2 ^ 64) c d)))) in (
      lt→ltb 0 (1 * d + n * 1) (some d n (down_pos e)),
      lt→ltb (n * 1) (2 ^ 64 * d) (lt_of_le_of_lt (le_of_eq (mul-one n)) u),
      ap (λ (x : ℕ). min x (2 ^ 64 - 1)) (div_same n d a c (down_pos e) C h.1) ∙ uncapped (a / c) ((div-lt_iff_lt-mul C).1 l),
    )
  where
    some : (d n : ℕ) → 0 < d → 0 < 1 * d + n * 1
    some d n h = omega arith

    uncapped : (a : ℕ) → a < 2 ^ 64 → min a (2 ^ 64 - 1) ≡ a
    uncapped a h = omega arith

-- ---- the tests of `round_half_away`, as MIR has their numbers
abbrev Z : Float
Z = of_bits binary64 0

abbrev B63 : Float
B63 = of_bits binary64 0x43e0_0000_0000_0000

abbrev B64 : Float
B64 = of_bits binary64 0x43f0_0000_0000_0000

yes : {b : Bool} → b ≡ true → T b
yes h = subst T (sym h) tt

no : {b : Bool} → b ≡ false → T (not b)
no h = subst (λ (a : Bool). T (not a)) (sym h) tt

module _ (m : ℕ) (e : ℤ) where
  over_zero : lt Z (fin false m e) ≡ true → 0 < m * up e
  unfolding lt of_bits
  over_zero h = go (m * up e) (down e) (ltb→lt (0 * down e) (m * up e * 1) (yes h))
    where
      go : (n d : ℕ) → 0 * d < n * 1 → 0 < n
      go n d l = omega arith

  at_zero : lt Z (fin false m e) ≡ false → m * up e ≡ 0
  unfolding lt of_bits
  at_zero h = go (m * up e) (down e) (nltb→le (0 * down e) (m * up e * 1) (no h))
    where
      go : (n d : ℕ) → n * 1 ≤ 0 * d → n ≡ 0
      go n d l = omega arith

  under_63 : lt (fin false m e) B63 ≡ true → m * up e < 2 ^ 63 * down e
  unfolding lt of_bits
  under_63 h = go (m * up e) (ltb→lt (m * up e * 1) (2 ^ 63 * down e) (yes h))
    where
      go : (n : ℕ) → n * 1 < 2 ^ 63 * down e → n < 2 ^ 63 * down e
      go n l = omega arith

  from_63 : lt (fin false m e) B63 ≡ false → 2 ^ 63 * down e ≤ m * up e
  unfolding lt of_bits
  from_63 h = go (m * up e) (nltb→le (m * up e * 1) (2 ^ 63 * down e) (no h))
    where
      go : (n : ℕ) → 2 ^ 63 * down e ≤ n * 1 → 2 ^ 63 * down e ≤ n
      go n l = omega arith

  under_64 : lt (fin false m e) B64 ≡ true → m * up e < 2 ^ 64 * down e
  unfolding lt of_bits
  under_64 h = go (m * up e) (ltb→lt (m * up e * 1) (2 ^ 64 * down e) (yes h))
    where
      go : (n : ℕ) → n * 1 < 2 ^ 64 * down e → n < 2 ^ 64 * down e
      go n l = omega arith

  from_64 : lt (fin false m e) B64 ≡ false → 2 ^ 64 * down e ≤ m * up e
  unfolding lt of_bits
  from_64 h = go (m * up e) (nltb→le (m * up e * 1) (2 ^ 64 * down e) (no h))
    where
      go : (n : ℕ) → 2 ^ 64 * down e ≤ n * 1 → 2 ^ 64 * down e ≤ n
      go n l = omega arith

-- ---- below 2 ^ 63
halved : (a c : ℕ) → 0 < c → 2 * a / c / 2 + 2 * a / c % 2 ≡ half_up a c
halved a c C =
    up_half (2 * a / c)
    ∙ ap (λ (x : ℕ). x / 2) (sym (add-mul-div_right (2 * a) 1 C) ∙ ap (λ (x : ℕ). (2 * a + x) / c) (one-mul c))
    ∙ div-div-eq-div-mul (2 * a + c) c 2
    ∙ ap (λ (x : ℕ). (2 * a + c) / x) (mul_comm c 2)
  where
    up_half : (t : ℕ) → t / 2 + t % 2 ≡ (t + 1) / 2
    up_half t = omega arith

abbrev pub First : Float → Type 0
First x = (a : ℕ) × (c : ℕ) × Cut (add binary64 x x) a c × ((last : ℕ) → min (a / c / 2 + a / c % 2) last ≡ round_to last x)

pub first : (x : Float) → T (fits binary64 x) → lt Z x ≡ true → lt x B63 ≡ true → First x
unfolding lt of_bits
first nan F h k = absurd (false≢true h)
first (inf true) F h k = absurd (false≢true h)
first (inf false) F h k = absurd (false≢true k)
first (fin true m e) F h k = absurd (false≢true h)
first (fin false zero e) F h k = absurd (none (up e) (over_zero zero e h))
  where
    none : (u : ℕ) → 0 < 0 * u → ⊥
    none u l = omega arith
first (fin false (suc m) e) F h k =
    let n = suc m * up e in
    let d = down e in
    let s = under_63 (suc m) e k in (
      2 * n,
      d,
      cut_of (add binary64 (fin false (suc m) e) (fin false (suc m) e)) (2 * n) d (down_pos e) (double_val m e F s) (twice n d s),
      λ last. ap (λ (x : ℕ). min x last) (halved n d (down_pos e)),
    )
  where
    twice : (n d : ℕ) → n < 2 ^ 63 * d → 2 * n < 2 ^ 64 * d
    twice n d h = omega arith

-- ---- from 2 ^ 63 on, below 2 ^ 64
abbrev pub Second : Float → Type 0
Second x = (a : ℕ) × Cut x a 1 × ((last : ℕ) → min (a / 1) last ≡ round_to last x)

pub second : (x : Float) → T (fits binary64 x) → lt Z x ≡ true → lt x B63 ≡ false → lt x B64 ≡ true → Second x
unfolding lt of_bits
second nan F h g k = absurd (false≢true h)
second (inf true) F h g k = absurd (false≢true h)
second (inf false) F h g k = absurd (false≢true k)
second (fin true m e) F h g k = absurd (false≢true h)
second (fin false zero e) F h g k = absurd (none (up e) (over_zero zero e h))
  where
    none : (u : ℕ) → 0 < 0 * u → ⊥
    none u l = omega arith
second (fin false (suc m) (pos j)) F h g k =
    let n = suc m * 2 ^ j in (
      n,
      cut_of (fin false (suc m) (pos j)) n 1 (zero-lt-suc 0) (refl, refl) (under_64 (suc m) (pos j) k),
      λ last. ap (λ (x : ℕ). min x last) (whole n),
    )
  where
    whole : (n : ℕ) → n / 1 ≡ (2 * n + 1) / 2
    whole n = omega arith
second (fin false (suc m) (negsuc j)) F h g k = absurd (large (suc m) (2 ^ suc j) (facts m (negsuc j) F).0 (pow_pos (suc j)) (from_63 (suc m) (negsuc j) g))
  where
    large : (m p : ℕ) → m < 2 ^ 53 → 0 < p → 2 ^ 63 * p ≤ m * 1 → ⊥
    large m p a b c = omega arith

-- ---- from 2 ^ 64 on
pub third : (x : Float) (last : ℕ) → last < 2 ^ 64 → lt Z x ≡ true → lt x B64 ≡ false → last ≡ round_to last x
unfolding lt of_bits
third nan last l h k = absurd (false≢true h)
third (inf true) last l h k = absurd (false≢true h)
third (inf false) last l h k = refl
third (fin true m e) last l h k = absurd (false≢true h)
third (fin false m e) last l h k = capped (half_up (m * up e) (down e)) last l ((le-div_iff_mul-le (mul-pos (zero-lt-suc 1) (down_pos e))).1 (enough (m * up e) (down e) (from_64 m e k)))
  where
    enough : (n d : ℕ) → 2 ^ 64 * d ≤ n → 2 ^ 64 * (2 * d) ≤ 2 * n + d
    enough n d h = omega arith

    capped : (r last : ℕ) → last < 2 ^ 64 → 2 ^ 64 ≤ r → last ≡ min r last
    capped r last h k = omega arith

-- ---- not above 0
pub fourth : (x : Float) (last : ℕ) → lt Z x ≡ false → 0 ≡ round_to last x
unfolding lt of_bits
fourth nan last h = refl
fourth (inf true) last h = refl
fourth (inf false) last h = absurd (true≢false h)
fourth (fin true m e) last h = refl
fourth (fin false m e) last h =
    sym (ap (λ (x : ℕ). min x last) (ap (λ (n : ℕ). half_up n (down e)) (at_zero m e h) ∙ div-eq_of_lt (less (down e) (down_pos e))) ∙ least last)
  where
    less : (d : ℕ) → 0 < d → 2 * 0 + d < 2 * d
    less d h = omega arith

    least : (k : ℕ) → min 0 k ≡ 0
    least k = omega arith
