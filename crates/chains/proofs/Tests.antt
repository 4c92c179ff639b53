-- A test of two numbers, and what it says: matched on where a definition has the test's Bool.
-- Assumes nothing.
use mathlib.Core.Path.{◌≡◌, refl, sym, ◌∙◌, subst}
use mathlib.Core.Bool.{Bool, true, false}
use Prim.Native.Nat.{ℕ, ◌≤◌, ◌<◌}
use native.Mathlib.Omega.{arith}
use lib.Dec.{T, eqb, ltb, eqb→eq, eqb_refl, ltb→lt, lt→ltb}

pub data Test (P : Type 0) (b : Bool) : Type 0 where
  holds : P → b ≡ true → Test P b
  fails : (P → ⊥) → b ≡ false → Test P b

pub eq_test : (m n : ℕ) → Test (m ≡ n) (eqb m n)
eq_test m n = go (eqb m n) refl
  where
    go : (b : Bool) → eqb m n ≡ b → Test (m ≡ n) (eqb m n)
    go true e = holds (eqb→eq m n (subst T (sym e) tt)) e
    go false e = fails (λ p. subst T e (subst (λ (k : ℕ). T (eqb m k)) p (eqb_refl m))) e

pub lt_test : (m n : ℕ) → Test (m < n) (ltb m n)
lt_test m n = go (ltb m n) refl
  where
    go : (b : Bool) → ltb m n ≡ b → Test (m < n) (ltb m n)
    go true e = holds (ltb→lt m n (subst T (sym e) tt)) e
    go false e = fails (λ p. subst T e (lt→ltb m n p)) e

pub eq_true : (m n : ℕ) → m ≡ n → eqb m n ≡ true
eq_true m n e = go (eq_test m n)
  where
    go : Test (m ≡ n) (eqb m n) → eqb m n ≡ true
    go (holds p t) = t
    go (fails p t) = absurd (p e)

pub eq_false : (m n : ℕ) → (m ≡ n → ⊥) → eqb m n ≡ false
eq_false m n ne = go (eq_test m n)
  where
    go : Test (m ≡ n) (eqb m n) → eqb m n ≡ false
    go (holds p t) = absurd (ne p)
    go (fails p t) = t

pub lt_true : (m n : ℕ) → m < n → ltb m n ≡ true
lt_true m n l = go (lt_test m n)
  where
    go : Test (m < n) (ltb m n) → ltb m n ≡ true
    go (holds p t) = t
    go (fails p t) = absurd (p l)

pub lt_false : (m n : ℕ) → n ≤ m → ltb m n ≡ false
lt_false m n l = go (lt_test m n)
  where
    go : Test (m < n) (ltb m n) → ltb m n ≡ false
    go (holds p t) = absurd (omega arith)
    go (fails p t) = t

pub true_not_false : {b : Bool} → b ≡ true → b ≡ false → ⊥
true_not_false e f = subst T (sym e ∙ f) tt
