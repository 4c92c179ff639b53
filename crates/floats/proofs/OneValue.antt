-- A number that is not negative is an f64 in one way: two f64s that both are a / c exactly are equal. Assumes nothing.
use Rattle.std.proofs.Common.{◌≡◌, ℕ, zero, suc, ◌+◌, ◌*◌, ◌%◌, ◌^◌, ◌<◌, Bool, ◌&&◌, T, eqb, ltb, leb, ℤ, pos, negsuc, sym, refl, ap, ◌∙◌, subst, lt_irrefl, zero-lt-suc, mul_assoc, mul-pos, one-mul, pow-suc, zero-mul, mul-one, mul_right_comm, arith, eqb→eq, pow_pos, pow-add}
use native.Mathlib.Nat.{eq_of_mul-eq-mul_right, suc_inj}
use lib.Ieee.{Float, nan, inf, fin, binary64, up, down, fits}
use lib.Ieee.Fits.{up_pos, down_pos, and_l}
use lib.Ieee.Exact.{HasValue}

even_odd : (m t : ℕ) → m % 2 ≡ 1 → m ≡ t * 2 → ⊥
even_odd m t o h = omega arith

-- an odd number times a power of two is so in one way
odd_power : (m n a b : ℕ) → m % 2 ≡ 1 → n % 2 ≡ 1 → m * 2 ^ a ≡ n * 2 ^ b → (m ≡ n) × (a ≡ b)
odd_power m n zero zero o p h = (sym (mul-one m) ∙ h ∙ mul-one n, refl)
odd_power m n zero (suc b) o p h = absurd (even_odd m (n * 2 ^ b) o (sym (mul-one m) ∙ h ∙ ap (λ (x : ℕ). n * x) (pow-suc 2 b) ∙ sym (mul_assoc n (2 ^ b) 2)))
odd_power m n (suc a) zero o p h = absurd (even_odd n (m * 2 ^ a) p (sym (mul-one n) ∙ sym h ∙ ap (λ (x : ℕ). m * x) (pow-suc 2 a) ∙ sym (mul_assoc m (2 ^ a) 2)))
odd_power m n (suc a) (suc b) o p h =
    let r = odd_power m n a b o p (eq_of_mul-eq-mul_right 2 (zero-lt-suc 1) (m * 2 ^ a) (n * 2 ^ b)
    (mul_assoc m (2 ^ a) 2 ∙ ap (λ (x : ℕ). m * x) (sym (pow-suc 2 a)) ∙ h ∙ ap (λ (x : ℕ). n * x) (pow-suc 2 b) ∙ sym (mul_assoc n (2 ^ b) 2))) in
    (r.0, ap suc r.1)

-- of a value that fits, m is odd, or it is 0 with the exponent 0
is_odd : (s : Bool) (m : ℕ) (e : ℤ) → T (fits binary64 (fin s (suc m) e)) → suc m % 2 ≡ 1
unfolding fits
is_odd s m e t =
    let a = eqb (suc m % 2) 1 in
    let b = ltb (suc m) (2 ^ 53) in
    let c = leb (down e) (2 ^ 1074) in
    let d = ltb (suc m * up e) (2 ^ 1024 * down e) in
    eqb→eq (suc m % 2) 1 (and_l a b (and_l (a && b) c (and_l (a && b && c) d t)))

flat : (e : ℤ) → up e * down e ≡ 1 → e ≡ pos 0
flat (pos zero) h = refl
flat (pos (suc k)) h = absurd (two (2 ^ k) (pow_pos k) (sym (pow-suc 2 k) ∙ sym (mul-one (2 ^ suc k)) ∙ h))
  where
    two : (p : ℕ) → 0 < p → p * 2 ≡ 1 → ⊥
    two p h e = omega arith
flat (negsuc k) h = absurd (two (2 ^ k) (pow_pos k) (sym (pow-suc 2 k) ∙ sym (one-mul (2 ^ suc k)) ∙ h))
  where
    two : (p : ℕ) → 0 < p → p * 2 ≡ 1 → ⊥
    two p h e = omega arith

zero_exponent : (s : Bool) (e : ℤ) → T (fits binary64 (fin s zero e)) → e ≡ pos 0
unfolding fits
zero_exponent s e t = flat e (eqb→eq (up e * down e) 1 t)

-- the two fractions m * up e / down e and n * up g / down g are the same
across : (m n u d v w a c : ℕ) → 0 < c → m * u * c ≡ a * d → n * v * c ≡ a * w → m * u * w ≡ n * v * d
across m n u d v w a c C h k =
    eq_of_mul-eq-mul_right c C (m * u * w) (n * v * d)
    (mul_right_comm (m * u) w c ∙ ap (λ (x : ℕ). x * w) h ∙ mul_right_comm a d w ∙ ap (λ (x : ℕ). x * d) (sym k) ∙ mul_right_comm (n * v) c d)

no_zero : (n v d w : ℕ) → 0 < v → 0 < d → 0 * w ≡ suc n * v * d → ⊥
no_zero n v d w p q h = lt_irrefl 0 (subst (λ (x : ℕ). 0 < x) (sym h ∙ zero-mul w) (mul-pos (mul-pos (zero-lt-suc n) p) q))

same_odd : (m n : ℕ) (e g : ℤ) → m % 2 ≡ 1 → n % 2 ≡ 1 → m * up e * down g ≡ n * up g * down e → (m ≡ n) × (e ≡ g)
same_odd m n (pos i) (pos j) o p h =
    let r = odd_power m n i j o p (sym (mul-one (m * 2 ^ i)) ∙ h ∙ mul-one (n * 2 ^ j)) in
    (r.0, ap pos r.1)
same_odd m n (pos i) (negsuc j) o p h =
    let r = odd_power m n (i + suc j) 0 o p (ap (λ (x : ℕ). m * x) (pow-add 2 i (suc j)) ∙ sym (mul_assoc m (2 ^ i) (2 ^ suc j)) ∙ h ∙ mul-one (n * 1)) in
    absurd (some i j r.1)
  where
    some : (i j : ℕ) → i + suc j ≡ 0 → ⊥
    some i j h = omega arith
same_odd m n (negsuc i) (pos j) o p h =
    let r = odd_power n m (j + suc i) 0 p o (ap (λ (x : ℕ). n * x) (pow-add 2 j (suc i)) ∙ sym (mul_assoc n (2 ^ j) (2 ^ suc i)) ∙ sym h ∙ mul-one (m * 1)) in
    absurd (some j i r.1)
  where
    some : (i j : ℕ) → i + suc j ≡ 0 → ⊥
    some i j h = omega arith
same_odd m n (negsuc i) (negsuc j) o p h =
    let r = odd_power m n (suc j) (suc i) o p (ap (λ (x : ℕ). x * 2 ^ suc j) (sym (mul-one m)) ∙ h ∙ ap (λ (x : ℕ). x * 2 ^ suc i) (mul-one n)) in
    (r.0, ap negsuc (sym (suc_inj r.1)))

pub one_value : (x y : Float) (s : Bool) (a c : ℕ) → 0 < c → T (fits binary64 x) → T (fits binary64 y) → HasValue x s a c → HasValue y s a c → x ≡ y
one_value nan y s a c C p q v w = absurd v
one_value (inf t) y s a c C p q v w = absurd v
one_value (fin t m e) nan s a c C p q v w = absurd w
one_value (fin t m e) (inf u) s a c C p q v w = absurd w
one_value (fin t zero e) (fin u zero g) s a c C p q v w = λ i. fin ((v.0 ∙ sym w.0) i) zero ((zero_exponent t e p ∙ sym (zero_exponent u g q)) i)
one_value (fin t zero e) (fin u (suc n) g) s a c C p q v w =
    absurd (no_zero n (up g) (down e) (down g) (up_pos g) (down_pos e) (ap (λ (x : ℕ). x * down g) (sym (zero-mul (up e))) ∙ across zero (suc n) (up e) (down e) (up g) (down g) a c C v.1 w.1))
one_value (fin t (suc m) e) (fin u zero g) s a c C p q v w =
    absurd (no_zero m (up e) (down g) (down e) (up_pos e) (down_pos g) (ap (λ (x : ℕ). x * down e) (sym (zero-mul (up g))) ∙ across zero (suc m) (up g) (down g) (up e) (down e) a c C w.1 v.1))
one_value (fin t (suc m) e) (fin u (suc n) g) s a c C p q v w =
    let r = same_odd (suc m) (suc n) e g (is_odd t m e p) (is_odd u n g q) (across (suc m) (suc n) (up e) (down e) (up g) (down g) a c C v.1 w.1) in
    λ i. fin ((v.0 ∙ sym w.0) i) (r.0 i) (r.1 i)
