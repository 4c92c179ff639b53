-- Division by places: each place is ten times the rest of the one before, divided. Assumes nothing.
use mathlib.Core.Path.{◌≡◌, sym, ap, ◌∙◌, subst}
use Prim.Native.Nat.{ℕ, zero, suc, ◌+◌, ◌-◌, ◌*◌, ◌/◌, ◌%◌, ◌<◌, ◌≤◌, zero-le}
use native.Mathlib.Omega.{arith}
use native.Mathlib.Nat.{div-add-mod', mul-add-div_right, mul-add-mod_self_right, div-eq_of_lt, mod-eq_of_lt, mul_assoc, add-mul, mul-one, le_trans, div-le_self, div-le_of_le-mul}

-- one turn without and with the divisor taken off
pub stays : (i r w d s : ℕ) → i * r ≡ w * d + s → (i + 1) * r ≡ w * d + (s + r)
stays i r w d s e = add-mul i 1 r ∙ add (i * r) (w * d) s r e
  where
    add : (a b s r : ℕ) → a ≡ b + s → a + 1 * r ≡ b + (s + r)
    add a b s r e = omega arith

pub carries : (i r w d s : ℕ) → i * r ≡ w * d + s → r < d → d - r ≤ s → (i + 1) * r ≡ (w + 1) * d + (s - (d - r))
carries i r w d s e h k = add-mul i 1 r ∙ add (i * r) (w * d) s r d e h k ∙ ap (λ (n : ℕ). n + (s - (d - r))) (sym (add-mul w 1 d))
  where
    add : (a b s r d : ℕ) → a ≡ b + s → r < d → d - r ≤ s → a + 1 * r ≡ b + 1 * d + (s - (d - r))
    add a b s r d e h k = omega arith

-- what ten turns have found is the quotient and the rest
pub quotient : (n w d s : ℕ) → n ≡ w * d + s → s < d → w ≡ n / d
quotient n w d s e h = sym (ap (λ (x : ℕ). x / d) e ∙ mul-add-div_right (above s d h) w s ∙ ap (λ (x : ℕ). w + x) (div-eq_of_lt h) ∙ plain w)
  where
    above : (s d : ℕ) → s < d → 0 < d
    above s d h = omega arith

    plain : (w : ℕ) → w + 0 ≡ w
    plain w = omega arith

pub rest : (n w d s : ℕ) → n ≡ w * d + s → s < d → s ≡ n % d
rest n w d s e h = sym (ap (λ (x : ℕ). x % d) e ∙ mul-add-mod_self_right w d s ∙ mod-eq_of_lt h)

-- ten times a number, by its quotient and its rest
spread : (x d : ℕ) → 10 * x ≡ 10 * (x / d) * d + 10 * (x % d)
spread x d = ten x (x / d * d) (x % d) (sym (div-add-mod' x d)) ∙ ap (λ (n : ℕ). n + 10 * (x % d)) (sym (mul_assoc 10 (x / d) d))
  where
    ten : (x a b : ℕ) → x ≡ a + b → 10 * x ≡ 10 * a + 10 * b
    ten x a b e = omega arith

place : (x d : ℕ) → 0 < d → 10 * x / d ≡ 10 * (x / d) + 10 * (x % d) / d
place x d h = ap (λ (n : ℕ). n / d) (spread x d) ∙ mul-add-div_right h (10 * (x / d)) (10 * (x % d))

place_rest : (x d : ℕ) → 10 * x % d ≡ 10 * (x % d) % d
place_rest x d = ap (λ (n : ℕ). n % d) (spread x d) ∙ mul-add-mod_self_right (10 * (x / d)) d (10 * (x % d))

-- three places
module _ (u d : ℕ) (h : 0 < d) where
  pub three : (a b c p q : ℕ) → a ≡ 10 * (u % d) / d → p ≡ 10 * (u % d) % d → b ≡ 10 * p / d → q ≡ 10 * p % d → c ≡ 10 * q / d
      → 1000 * (u / d) + 100 * a + 10 * b + c ≡ 1000 * u / d
  three a b c p q ea ep eb eq ec =
      sum (u / d) a b c (10 * u / d) (10 * (10 * u) / d) (10 * (10 * (10 * u)) / d) first second third ∙ ap (λ (n : ℕ). n / d) (thousand u)
    where
      first : 10 * u / d ≡ 10 * (u / d) + a
      first = place u d h ∙ ap (λ (n : ℕ). 10 * (u / d) + n) (sym ea)

      first_rest : 10 * u % d ≡ p
      first_rest = place_rest u d ∙ sym ep

      second : 10 * (10 * u) / d ≡ 10 * (10 * u / d) + b
      second = place (10 * u) d h ∙ ap (λ (n : ℕ). 10 * (10 * u / d) + n) (ap (λ (n : ℕ). 10 * n / d) first_rest ∙ sym eb)

      second_rest : 10 * (10 * u) % d ≡ q
      second_rest = place_rest (10 * u) d ∙ ap (λ (n : ℕ). 10 * n % d) first_rest ∙ sym eq

      third : 10 * (10 * (10 * u)) / d ≡ 10 * (10 * (10 * u) / d) + c
      third = place (10 * (10 * u)) d h ∙ ap (λ (n : ℕ). 10 * (10 * (10 * u) / d) + n) (ap (λ (n : ℕ). 10 * n / d) second_rest ∙ sym ec)

      sum : (z a b c x y w : ℕ) → x ≡ 10 * z + a → y ≡ 10 * x + b → w ≡ 10 * y + c → 1000 * z + 100 * a + 10 * b + c ≡ w
      sum z a b c x y w e f g = omega arith

      thousand : (u : ℕ) → 10 * (10 * (10 * u)) ≡ 1000 * u
      thousand u = omega arith

-- a part is at most one whole
pub at_most_one : (u d : ℕ) → u ≤ d → u / d ≤ 1
at_most_one u zero h = le_trans (div-le_self u zero) (le_trans h zero-le)
at_most_one u (suc d) h = div-le_of_le-mul (suc d) (subst (λ (n : ℕ). u ≤ n) (sym (mul-one (suc d))) h)
