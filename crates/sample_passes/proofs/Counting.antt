-- Laws of `below`, the count of the samples whose key is below k, over any key.
-- Assumes nothing.
use Rattle.std.proofs.Common.{◌≡◌, ℕ, ◌+◌, ◌-◌, ◌^◌, ◌<◌, ◌≤◌, Bool, true, false, ltb, ◌⊎◌, List, [], ◌∷◌, ◌++◌, length, get_or, take, refl, ap, ◌∙◌, inl, inr, ⊎_elim, eq-zero-or-pos, add-one, arith, length-take, length-take-le, take-suc, ltb-true, le-ltb, lt-ltb}
use native.Mathlib.Nat.{min-le_left}
use Rattle.sample_passes.specs.Keys.{shifted}
use Rattle.sample_passes.specs.Counting.{one_if, below}

pub lt_or_le : (j k : ℕ) → (j < k) ⊎ (k ≤ j)
lt_or_le j k = ⊎_elim (λ z. inr (omega (arith, z))) (λ p. inl (omega (arith, p))) (eq-zero-or-pos (k - j))

pub one_below : (a k : ℕ) → a < k → one_if (ltb a k) ≡ 1
unfolding one_if
one_below a k l = ap one_if (lt-ltb a k l)

pub none_below : (a k : ℕ) → k ≤ a → one_if (ltb a k) ≡ 0
unfolding one_if
none_below a k l = ap one_if (le-ltb a k l)

pub one_if-most : (t : Bool) → one_if t ≤ 1
unfolding one_if
one_if-most true = omega arith
one_if-most false = omega arith

one_if_grows : (s t : Bool) → (s ≡ true → t ≡ true) → one_if s ≤ one_if t
unfolding one_if
one_if_grows true t h = omega (arith, ap one_if (h refl))
one_if_grows false t h = omega arith

module _ (key : ℕ → ℕ) where
  pub below_grows : (j k : ℕ) → j ≤ k → (xs : List ℕ) → below key j xs ≤ below key k xs
  unfolding below
  below_grows j k l [] = omega arith
  below_grows j k l (x ∷ xs) =
      omega (
        arith,
        below_grows j k l xs,
        one_if_grows (ltb (key x) j) (ltb (key x) k) (λ e. lt-ltb (key x) k (omega (arith, l, ltb-true (key x) j e))),
      )

  pub below_length : (k : ℕ) (xs : List ℕ) → below key k xs ≤ length xs
  unfolding below
  below_length k [] = omega arith
  below_length k (x ∷ xs) = omega (arith, below_length k xs, one_if-most (ltb (key x) k))

  pub below_none : (xs : List ℕ) → below key 0 xs ≡ 0
  unfolding below
  below_none [] = refl
  below_none (x ∷ xs) = omega (arith, none_below (key x) 0 (omega arith), below_none xs)

  pub below-append : (k : ℕ) (xs ys : List ℕ) → below key k (xs ++ ys) ≡ below key k xs + below key k ys
  unfolding below
  below-append k [] ys = omega arith
  below-append k (x ∷ xs) ys = omega (arith, below-append k xs ys)

  pub below_one : (k x : ℕ) → below key k (x ∷ []) ≡ one_if (ltb (key x) k)
  unfolding below
  below_one k x = omega arith

  -- one sample more
  pub below_more : (k : ℕ) (xs : List ℕ) (i : ℕ) → i < length xs
      → below key k (take (i + 1) xs) ≡ below key k (take i xs) + one_if (ltb (key (get_or xs i 0)) k)
  below_more k xs i l =
      rw (add-one, take-suc xs i 0, below-append, below_one)

  -- one sample more, by where its key is
  pub below-take_lt : (k : ℕ) (xs : List ℕ) (i : ℕ) → i < length xs → key (get_or xs i 0) < k
      → below key k (take (i + 1) xs) ≡ below key k (take i xs) + 1
  below-take_lt k xs i l h = omega (arith, below_more k xs i l, one_below (key (get_or xs i 0)) k h)

  pub below-take_ge : (k : ℕ) (xs : List ℕ) (i : ℕ) → i < length xs → k ≤ key (get_or xs i 0)
      → below key k (take (i + 1) xs) ≡ below key k (take i xs)
  below-take_ge k xs i l h = omega (arith, below_more k xs i l, none_below (key (get_or xs i 0)) k h)

  pub below-take-most : (k : ℕ) (xs : List ℕ) (i : ℕ) → below key k (take i xs) ≤ i
  below-take-most k xs i = omega (arith, below_length k (take i xs), length-take i xs, min-le_left i (length xs))

  pub below-take_grows : (k : ℕ) (xs : List ℕ) (i : ℕ) → i < length xs → below key k (take i xs) ≤ below key k (take (i + 1) xs)
  below-take_grows k xs i l = omega (arith, below_more k xs i l)

  pub below-take_one : (k : ℕ) (xs : List ℕ) (i : ℕ) → i < length xs → below key k (take (i + 1) xs) ≤ below key k (take i xs) + 1
  below-take_one k xs i l = omega (arith, below_more k xs i l, one_if-most (ltb (key (get_or xs i 0)) k))

  -- where every key is below k, all are counted
  pub below_all : (k : ℕ) → ((x : ℕ) → key x < k) → (xs : List ℕ) → below key k xs ≡ length xs
  unfolding below
  below_all k h [] = refl
  below_all k h (x ∷ xs) = omega (arith, one_below (key x) k (h x), below_all k h xs)

-- the whole range of keys has every sample
pub below-whole : (bias count : ℕ) (xs : List ℕ) → count ≤ length xs → below (shifted bias) (2 ^ 64) (take count xs) ≡ count
below-whole bias count xs l =
    below_all (shifted bias) (2 ^ 64) (λ x. omega (arith)) (take count xs) ∙ length-take-le count xs l
