-- Sequences that ascend strictly: none stands twice, and a search can stop early.
-- Assumes nothing.
use mathlib.Core.Path.{◌≡◌, refl, sym, ap, subst, ◌∙◌}
use mathlib.Core.List.{List, [], ◌∷◌, ◌++◌}
use Prim.Native.Nat.{ℕ, zero, suc, ◌+◌, ◌<◌, ◌≤◌, ◌-◌}
use native.Mathlib.Omega.{arith}
use lib.ListN.{drop}
use lib.Seq.{drop-drop}

-- every number of a list is above one
abbrev pub Above : ℕ → List ℕ → Type 0
Above n [] = Unit {0}
Above n (x ∷ xs) = (n < x) × Above n xs

abbrev pub Rises : List ℕ → Type 0
Rises [] = Unit {0}
Rises (x ∷ xs) = Above x xs × Rises xs

-- the last number of a list that has one
abbrev pub Last : ℕ → List ℕ → Type 0
Last n [] = Unit {0}
Last n (x ∷ []) = x ≡ n
Last n (x ∷ y ∷ ys) = Last n (y ∷ ys)

pub rises-drop : (k : ℕ) (xs : List ℕ) → Rises xs → Rises (drop k xs)
rises-drop zero xs r = r
rises-drop (suc k) [] r = tt
rises-drop (suc k) (x ∷ xs) r = rises-drop k xs r.1

-- after n pops, the run covers no less of what is left
pub rises_later : (xs : List ℕ) (len run n : ℕ) → n ≤ len → Rises (drop (len - run) xs) → Rises (drop (len - n - run) (drop n xs))
rises_later xs len run n l r =
    subst (λ (ys : List ℕ). Rises ys) (drop-drop (n + (len - n - run) - (len - run)) (len - run) xs ∙ ap (λ (k : ℕ). drop k xs) (sums (len - run) (n + (len - n - run)) (omega arith)) ∙ sym (drop-drop (len - n - run) n xs))
    (rises-drop (n + (len - n - run) - (len - run)) (drop (len - run) xs) r)
  where
    sums : (a b : ℕ) → a ≤ b → a + (b - a) ≡ b
    sums a b h = omega (arith, h)

last_tail : (n x : ℕ) (xs : List ℕ) → Last n (x ∷ xs) → Last n xs
last_tail n x [] h = tt
last_tail n x (y ∷ ys) h = h

pub last-drop : (n k : ℕ) (xs : List ℕ) → Last n xs → Last n (drop k xs)
last-drop n zero xs h = h
last-drop n (suc k) [] h = tt
last-drop n (suc k) (x ∷ xs) h = last-drop n k xs (last_tail n x xs h)

pub last_snoc : (n : ℕ) (xs : List ℕ) → Last n (xs ++ n ∷ [])
last_snoc n [] = refl
last_snoc n (x ∷ []) = refl
last_snoc n (x ∷ y ∷ ys) = last_snoc n (y ∷ ys)

below_last : (n v x : ℕ) (xs : List ℕ) → Rises (x ∷ xs) → Last n (x ∷ xs) → n < v → x < v
below_last n v x [] r h l = omega (arith, h, l)
below_last n v x (y ∷ ys) r h l = let k : y < v = below_last n v y ys r.1 h l in omega (arith, k, r.0.0)

above_snoc : (n v : ℕ) (xs : List ℕ) → Above n xs → n < v → Above n (xs ++ v ∷ [])
above_snoc n v [] a l = (l, tt)
above_snoc n v (x ∷ xs) a l = (a.0, above_snoc n v xs a.1 l)

-- one more that is above the last
pub rises_snoc : (n v : ℕ) (xs : List ℕ) → Rises xs → Last n xs → n < v → Rises (xs ++ v ∷ [])
rises_snoc n v [] r h l = (tt, tt)
rises_snoc n v (x ∷ xs) r h l = (above_snoc x v xs r.0 (below_last n v x xs r h l), rises_snoc n v xs r.1 (last_tail n x xs h) l)

pub above-append : (n : ℕ) (xs ys : List ℕ) → Above n (xs ++ ys) → Above n ys
above-append n [] ys a = a
above-append n (x ∷ xs) ys a = above-append n xs ys a.1
