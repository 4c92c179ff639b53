-- Laws on values: a product, a sum, a power of two by its bit pattern, and a number times a power of two. Assumes nothing.
use Rattle.std.proofs.Common.{◌≡◌, ℕ, zero, suc, ◌+◌, ◌-◌, ◌*◌, ◌/◌, ◌%◌, ◌^◌, ◌<◌, ◌≤◌, Bool, true, false, cond, not, T, eqb, leb, pos, sym, refl, ap, ◌∙◌, subst, true≢false, le_of_eq, lt_of_lt_of_le, lt_of_le_of_lt, add_assoc, lt_irrefl, mod-eq_of_lt, zero-lt-suc, mul_assoc, mul_comm, add-mul, mul-pos, one-mul, pow-suc, mul-one, mul_right_comm, not-le_of_lt, mul-div_cancel, arith, lit<, eqb→eq, leb→le, pow_pos, pow_mono, pow-add, shl_lt}
use native.Mathlib.Nat.{mul-mul-mul_comm, mul-mod_left, eq_of_mul-eq-mul_right}
use Rattle.floats.specs.Exact.{Exactly}
use lib.Dec.{not_T}
use lib.Pow.{pow-lt}
use lib.Ieee.{Float, nan, inf, fin, Format, binary64, up, down, round, odd, mul, add, sum, of_int, of_bits, of_fields, nan_bits, is_nan}
use lib.Ieee.Fits.{down_pos, round-fits}
use lib.Ieee.Bits.{is_false, nan_bits_is, of_bits-fits}
use lib.Ieee.Exact.{HasValue, odd_sign, round_exact}
use lib.Ieee.Scale.{round_same}
use lib.Ieee.Back.{round_whole}
use Rattle.floats.proofs.OneValue.{one_value}

-- ---- a product and a sum of two values that are not negative, by the fractions that they are
pub mul_val : (f : Format) (x y : Float) (a c b d : ℕ) → 0 < c → 0 < d → HasValue x false a c → HasValue y false b d → mul f x y ≡ round f false (a * b) (c * d)
unfolding mul
mul_val f nan y a c b d C D h k = absurd h
mul_val f (inf s) y a c b d C D h k = absurd h
mul_val f (fin s m e) nan a c b d C D h k = absurd k
mul_val f (fin s m e) (inf t) a c b d C D h k = absurd k
mul_val f (fin true m e) (fin t n g) a c b d C D h k = absurd (true≢false h.0)
mul_val f (fin false m e) (fin true n g) a c b d C D h k = absurd (true≢false k.0)
mul_val f (fin false m e) (fin false n g) a c b d C D h k =
    round_same f false (m * up e * (n * up g)) (down e * down g) (a * b) (c * d) (mul-pos (down_pos e) (down_pos g)) (mul-pos C D)
    (mul-mul-mul_comm (m * up e) (n * up g) c d ∙ ap (λ (z : ℕ). z * (n * up g * d)) h.1 ∙ ap (λ (z : ℕ). a * down e * z) k.1 ∙ mul-mul-mul_comm a (down e) b (down g))

whole_sum : (m g n e a b : ℕ) → m * 1 ≡ a * e → n * 1 ≡ b * g → (m * g + n * e) * 1 ≡ (a + b) * (e * g)
whole_sum m g n e a b p q =
    mul-one (m * g + n * e)
    ∙ ap (λ (z : ℕ). z * g + n * e) (sym (mul-one m) ∙ p)
    ∙ ap (λ (z : ℕ). a * e * g + z * e) (sym (mul-one n) ∙ q)
    ∙ ap (λ (z : ℕ). z + b * g * e) (mul_assoc a e g)
    ∙ ap (λ (z : ℕ). a * (e * g) + z) (mul_assoc b g e ∙ ap (λ (z : ℕ). b * z) (mul_comm g e))
    ∙ sym (add-mul a b (e * g))

pub add_val : (f : Format) (x y : Float) (a b : ℕ) → HasValue x false a 1 → HasValue y false b 1 → add f x y ≡ round f false (a + b) 1
unfolding add sum
add_val f nan y a b h k = absurd h
add_val f (inf s) y a b h k = absurd h
add_val f (fin s m e) nan a b h k = absurd k
add_val f (fin s m e) (inf t) a b h k = absurd k
add_val f (fin true m e) (fin t n d) a b h k = absurd (true≢false h.0)
add_val f (fin false m e) (fin true n d) a b h k = absurd (true≢false k.0)
add_val f (fin false m e) (fin false n d) a b h k =
    round_same f false (m * up e * down d + n * up d * down e) (down e * down d) (a + b) 1 (mul-pos (down_pos e) (down_pos d)) (zero-lt-suc 0)
    (whole_sum (m * up e) (down d) (n * up d) (down e) a b h.1 k.1)

-- from one fraction to another of the same size
pub rescale : (x : Float) (s : Bool) (w l a c : ℕ) → 0 < l → a * l ≡ w * c → HasValue x s w l → HasValue x s a c
rescale nan s w l a c p h v = v
rescale (inf t) s w l a c p h v = v
rescale (fin t m e) s w l a c p h v = (
  v.0,
  eq_of_mul-eq-mul_right l p (m * up e * c) (a * down e)
      (mul_right_comm (m * up e) c l
      ∙ ap (λ (x : ℕ). x * c) v.1
      ∙ mul_right_comm w (down e) c
      ∙ ap (λ (x : ℕ). x * down e) (sym h)
      ∙ mul_right_comm a l (down e)),
)

-- ---- the bit pattern x * 2 ^ 52, for an exponent field x that is not 0 and not all ones, is 2 ^ (x - 1) * 2 ^ 52 units of 2 ^ -1074
of_bits_is : (b : ℕ) → of_bits binary64 b ≡ of_fields binary64 (leb (2 ^ 63) b) (b % 2 ^ 63 / 2 ^ 52) (b % 2 ^ 52)
unfolding of_bits
of_bits_is b = refl

fields : (j : ℕ) → suc j < 2047 → of_fields binary64 false (suc j) 0 ≡ odd 53 false (2 ^ 52) j 1074
unfolding of_fields
fields j h = ap (λ (b : Bool). cond b (inf false) (odd 53 false (2 ^ 52) j 1074)) (is_false (eqb (suc j) 2047) (not_T (eqb (suc j) 2047) (λ (t : T (eqb (suc j) 2047)). apart (suc j) h (eqb→eq (suc j) 2047 t))))
  where
    apart : (n : ℕ) → n < 2047 → n ≡ 2047 → ⊥
    apart n h e = omega arith

pattern_is : (j : ℕ) → suc j < 2047 → of_bits binary64 (suc j * 2 ^ 52) ≡ odd 53 false (2 ^ 52) j 1074
pattern_is j h =
    let b = suc j * 2 ^ 52 in
    let small : b < 2 ^ 63 = under (suc j) h in
    of_bits_is b
    ∙ ap (λ (s : Bool). of_fields binary64 s (b % 2 ^ 63 / 2 ^ 52) (b % 2 ^ 52)) (is_false (leb (2 ^ 63) b) (not_T (leb (2 ^ 63) b) (λ (t : T (leb (2 ^ 63) b)). not-le_of_lt small (leb→le (2 ^ 63) b t))))
    ∙ ap (λ (x : ℕ). of_fields binary64 false (x / 2 ^ 52) (b % 2 ^ 52)) (mod-eq_of_lt small)
    ∙ ap (λ (x : ℕ). of_fields binary64 false x (b % 2 ^ 52)) (mul-div_cancel (suc j) (pow_pos 52))
    ∙ ap (λ (x : ℕ). of_fields binary64 false (suc j) x) (mul-mod_left (suc j) (2 ^ 52))
    ∙ fields j h
  where
    under : (n : ℕ) → n < 2047 → n * 2 ^ 52 < 2 ^ 63
    under n h = omega arith

-- x * 2 ^ 52 as the machine shifts it
abbrev pub bits : ℕ → ℕ
bits x = x * 2 ^ 52 % 2 ^ 64

is_odd : (j : ℕ) → suc j < 2047 → of_bits binary64 (bits (suc j)) ≡ odd 53 false (2 ^ 52) j 1074
is_odd j h = ap (of_bits binary64) (mod-eq_of_lt (under (suc j) h)) ∙ pattern_is j h
  where
    under : (x : ℕ) → x < 2047 → x * 2 ^ 52 < 2 ^ 64
    under x h = omega arith

no_nan_odd : (d q k l : ℕ) → T (not (is_nan (odd d false q k l)))
unfolding odd is_nan
no_nan_odd d zero k l = tt
no_nan_odd d (suc q) k l = tt

pub no_nan : (x : ℕ) → 0 < x → x < 2047 → T (not (nan_bits binary64 (bits x)))
no_nan zero p h = absurd (lt_irrefl 0 p)
no_nan (suc j) p h = subst (λ (b : Bool). T (not b)) (sym (nan_bits_is binary64 (bits (suc j)) ∙ ap is_nan (is_odd j h))) (no_nan_odd 53 (2 ^ 52) j 1074)

-- the exponent field x stands for 2 ^ (x - 1023)
pub power_is : (x : ℕ) → 0 < x → x < 2047 → HasValue (of_bits binary64 (bits x)) false (2 ^ x) (2 ^ 1023)
power_is zero p h = absurd (lt_irrefl 0 p)
power_is (suc j) p h =
    rescale (of_bits binary64 (bits (suc j))) false (2 ^ 52 * 2 ^ j) (2 ^ 1074) (2 ^ suc j) (2 ^ 1023) (pow_pos 1074)
    (ap (λ (y : ℕ). y * 2 ^ 1074) (pow-suc 2 j) ∙ count (2 ^ j))
    (subst (λ (y : Float). HasValue y false (2 ^ 52 * 2 ^ j) (2 ^ 1074)) (sym (is_odd j h)) (odd_sign 53 false (2 ^ 52) j 1074))
  where
    count : (p : ℕ) → p * 2 * 2 ^ 1074 ≡ 2 ^ 52 * p * 2 ^ 1023
    count p = mul_assoc p 2 (2 ^ 1074) ∙ sym (ap (λ (y : ℕ). y * 2 ^ 1023) (mul_comm (2 ^ 52) p) ∙ mul_assoc p (2 ^ 52) (2 ^ 1023))

-- and it is the only f64 that does
pub power_exactly : (x : ℕ) → 0 < x → x < 2047 → Exactly (of_bits binary64 (bits x)) (2 ^ x) (2 ^ 1023)
power_exactly x p h = record {
  exact = power_is x p h;
  Only =
      one_value (of_bits binary64 (bits x)) (round binary64 false (2 ^ x) (2 ^ 1023)) false (2 ^ x) (2 ^ 1023) (pow_pos 1023)
      (of_bits-fits binary64 (bits x)) (round-fits binary64 false (2 ^ x) (2 ^ 1023)) (power_is x p h) rounded;
}
  where
    rounded : HasValue (round binary64 false (2 ^ x) (2 ^ 1023)) false (2 ^ x) (2 ^ 1023)
    rounded =
        round_exact binary64 false (2 ^ x) (2 ^ 1023) 1 (x + 51) (pow_pos 1023) (lit< tt)
        (lt_of_le_of_lt (le_of_eq (one-mul (2 ^ (x + 51)))) (pow-lt (room x h)))
        (sym (pow-add 2 x 1074) ∙ sym (ap (λ (y : ℕ). y * 2 ^ 1023) (one-mul (2 ^ (x + 51))) ∙ sym (pow-add 2 (x + 51) 1023) ∙ ap (λ (y : ℕ). 2 ^ y) (add_assoc x 51 1023)))
      where
        room : (x : ℕ) → x < 2047 → x + 51 < 2098
        room x h = omega arith

-- the same as a fraction 2 ^ k / 2 ^ l, for x - 1023 = k - l
pub power_at : (y : Float) (x k l : ℕ) → x + l ≡ k + 1023 → HasValue y false (2 ^ x) (2 ^ 1023) → HasValue y false (2 ^ k) (2 ^ l)
power_at y x k l e v = rescale y false (2 ^ x) (2 ^ 1023) (2 ^ k) (2 ^ l) (pow_pos 1023) (sym (pow-add 2 k 1023) ∙ ap (λ (z : ℕ). 2 ^ z) (sym e) ∙ pow-add 2 x l) v

-- an integer up to 2 ^ 53
pub whole_val : (n : ℕ) → n ≤ 2 ^ 53 → HasValue (of_int binary64 (pos n)) false n 1
unfolding of_int
whole_val n h = round_whole binary64 false n h

-- q * 2 ^ k / 2 ^ l is an f64 exactly
pub scaled_exact : (q k l : ℕ) → q < 2 ^ 53 → k ≤ 900 → l ≤ 1000 → HasValue (round binary64 false (q * 2 ^ k) (2 ^ l)) false (q * 2 ^ k) (2 ^ l)
scaled_exact q k l Q K L =
    round_exact binary64 false (q * 2 ^ k) (2 ^ l) q (k + (1074 - l)) (pow_pos l) Q
    (lt_of_lt_of_le (shl_lt 53 (k + (1074 - l)) Q) (pow_mono (room k l K)))
    (mul_assoc q (2 ^ k) (2 ^ 1074) ∙ ap (λ (x : ℕ). q * x) (sym (pow-add 2 k 1074) ∙ ap (λ (x : ℕ). 2 ^ x) (join k l L) ∙ pow-add 2 (k + (1074 - l)) l) ∙ sym (mul_assoc q (2 ^ (k + (1074 - l))) (2 ^ l)))
  where
    room : (k l : ℕ) → k ≤ 900 → 53 + (k + (1074 - l)) ≤ 2098
    room k l h = omega arith

    join : (k l : ℕ) → l ≤ 1000 → k + 1074 ≡ k + (1074 - l) + l
    join k l h = omega arith

-- a product of values is exact where it is such a number
pub exact_product : (x y : Float) (a c b d q k l : ℕ) → 0 < c → 0 < d → HasValue x false a c → HasValue y false b d → a * b ≡ q * 2 ^ k → c * d ≡ 2 ^ l → q < 2 ^ 53 → k ≤ 900 → l ≤ 1000
    → Exactly (mul binary64 x y) (q * 2 ^ k) (2 ^ l)
exact_product x y a c b d q k l C D h g e f Q K L =
    let p : mul binary64 x y ≡ round binary64 false (q * 2 ^ k) (2 ^ l) = mul_val binary64 x y a c b d C D h g ∙ ap (λ (z : ℕ). round binary64 false z (c * d)) e ∙ ap (λ (z : ℕ). round binary64 false (q * 2 ^ k) z) f in
    record { exact = subst (λ (z : Float). HasValue z false (q * 2 ^ k) (2 ^ l)) (sym p) (scaled_exact q k l Q K L); Only = p }
