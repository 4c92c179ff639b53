-- What the proof of `nearest_scaled` cites. Assumes nothing.
use Rattle.std.proofs.Common.{◌≡◌, ℕ, ◌+◌, ◌*◌, ◌/◌, ◌%◌, ◌^◌, ◌<◌, ◌≤◌, false, T, pos, sym, refl, ap, ◌∙◌, zero-le, add-zero, zero-lt-suc, mul_assoc, mul_comm, add-mul, div-add-mod', arith, le→leb, pow-add}
use lib.Ieee.{Float, binary64, round, mul, add, of_int, in_float}
use lib.Ieee.Exact.{HasValue}
use Rattle.floats.proofs.Values.{add_val, whole_val, exact_product, power_at}

half_val : (a k : ℕ) (p : Float) → a < 2 ^ 32 → k ≤ 128 → HasValue p false (2 ^ (k + 1023)) (2 ^ 1023) → HasValue (mul binary64 (of_int binary64 (pos a)) p) false (a * 2 ^ k) 1
half_val a k p A B h =
    (exact_product (of_int binary64 (pos a)) p a 1 (2 ^ k) 1 a k 0 (zero-lt-suc 0) (zero-lt-suc 0) (whole_val a (wide a A)) (power_at p (k + 1023) k 0 (add-zero (k + 1023)) h) refl refl (more a A) (less k B) (zero-le)).exact
  where
    wide : (a : ℕ) → a < 2 ^ 32 → a ≤ 2 ^ 53
    wide a h = omega arith

    more : (a : ℕ) → a < 2 ^ 32 → a < 2 ^ 53
    more a h = omega arith

    less : (k : ℕ) → k ≤ 128 → k ≤ 900
    less k h = omega arith

of_int_is : (n : ℕ) → of_int binary64 (pos n) ≡ round binary64 false n 1
unfolding of_int
of_int_is n = refl

pub halves : (m k : ℕ) (p s : Float) → m < 2 ^ 64 → k ≤ 64 → HasValue p false (2 ^ (k + 32 + 1023)) (2 ^ 1023) → HasValue s false (2 ^ (k + 1023)) (2 ^ 1023)
    → add binary64 (mul binary64 (of_int binary64 (pos (m / 2 ^ 32))) p) (mul binary64 (of_int binary64 (pos (m % 2 ^ 32))) s) ≡ of_int binary64 (pos (m * 2 ^ k))
halves m k p s M K h g =
    let a = m / 2 ^ 32 in
    let b = m % 2 ^ 32 in
    add_val binary64 (mul binary64 (of_int binary64 (pos a)) p) (mul binary64 (of_int binary64 (pos b)) s) (a * 2 ^ (k + 32)) (b * 2 ^ k)
    (half_val a (k + 32) p (upper m M) (room k K) h) (half_val b k s (lower m) (less k K) g)
    ∙ ap (λ (x : ℕ). round binary64 false x 1) (ap (λ (x : ℕ). a * x + b * 2 ^ k) (pow-add 2 k 32) ∙ join m (2 ^ k))
    ∙ sym (of_int_is (m * 2 ^ k))
  where
    upper : (m : ℕ) → m < 2 ^ 64 → m / 2 ^ 32 < 2 ^ 32
    upper m h = omega arith

    lower : (m : ℕ) → m % 2 ^ 32 < 2 ^ 32
    lower m = omega arith

    room : (k : ℕ) → k ≤ 64 → k + 32 ≤ 128
    room k h = omega arith

    less : (k : ℕ) → k ≤ 64 → k ≤ 128
    less k h = omega arith

    join : (m p : ℕ) → m / 2 ^ 32 * (p * 2 ^ 32) + m % 2 ^ 32 * p ≡ m * p
    join m p =
        ap (λ (x : ℕ). m / 2 ^ 32 * x + m % 2 ^ 32 * p) (mul_comm p (2 ^ 32))
        ∙ ap (λ (x : ℕ). x + m % 2 ^ 32 * p) (sym (mul_assoc (m / 2 ^ 32) (2 ^ 32) p))
        ∙ sym (add-mul (m / 2 ^ 32 * 2 ^ 32) (m % 2 ^ 32) p)
        ∙ ap (λ (x : ℕ). x * p) (div-add-mod' m (2 ^ 32))

-- a number below 2^53 is a float itself
pub small_in : (a : ℕ) → a < 2 ^ 53 → T (in_float binary64 (pos a))
unfolding in_float
small_in a h = le→leb a (2 ^ 53) (wide a h)
  where
    wide : (a : ℕ) → a < 2 ^ 53 → a ≤ 2 ^ 53
    wide a h = omega arith

pub half_in : (a : ℕ) → a < 2 ^ 32 → T (in_float binary64 (pos a))
half_in a h = small_in a (wide a h)
  where
    wide : (a : ℕ) → a < 2 ^ 32 → a < 2 ^ 53
    wide a h = omega arith
