-- An array of four is its four elements.
-- Assumes nothing.
use Rattle.std.proofs.Common.{◌≡◌, ℕ, zero, suc, ◌<◌, List, [], ◌∷◌, map, length, get_or, sym, refl, ◌∙◌, arith}

pub map_four : (f : ℕ → ℕ) (xs : List ℕ) → length xs ≡ 4
    → f (get_or xs 0 0) ∷ f (get_or xs 1 0) ∷ f (get_or xs 2 0) ∷ f (get_or xs 3 0) ∷ [] ≡ map f xs
map_four f [] e = absurd (omega (arith, e))
map_four f (a ∷ []) e = absurd (omega (arith, e))
map_four f (a ∷ b ∷ []) e = absurd (omega (arith, e))
map_four f (a ∷ b ∷ c ∷ []) e = absurd (omega (arith, e))
map_four f (a ∷ b ∷ c ∷ d ∷ []) e = refl
map_four f (a ∷ b ∷ c ∷ d ∷ x ∷ xs) e = absurd (omega (arith, e))

-- four results, each the function at its element, are the function at all
pub four_results : (f : ℕ → ℕ) (xs : List ℕ) (a b c d : ℕ) → length xs ≡ 4
    → a ≡ f (get_or xs 0 0) → b ≡ f (get_or xs 1 0) → c ≡ f (get_or xs 2 0) → d ≡ f (get_or xs 3 0)
    → a ∷ b ∷ c ∷ d ∷ [] ≡ map f xs
four_results f xs a b c d e p q r s = rw (p, q, r, s) (map_four f xs e)

-- two functions that agree at each of the four are the same at all
pub four_same : (f g : ℕ → ℕ) (xs : List ℕ) → length xs ≡ 4 → ((k : ℕ) → k < 4 → f (get_or xs k 0) ≡ g (get_or xs k 0)) → map f xs ≡ map g xs
four_same f g xs e h =
    sym (map_four f xs e)
    ∙ four_results g xs (f (get_or xs 0 0)) (f (get_or xs 1 0)) (f (get_or xs 2 0)) (f (get_or xs 3 0)) e (h 0 (omega arith)) (h 1 (omega arith)) (h 2 (omega arith)) (h 3 (omega arith))

-- one rank four times
pub same_ranks : (rank count : ℕ) → rank < count → (k : ℕ) → k < 4 → get_or (rank ∷ rank ∷ rank ∷ rank ∷ []) k 0 < count
same_ranks rank count l zero m = l
same_ranks rank count l (suc zero) m = l
same_ranks rank count l (suc (suc zero)) m = l
same_ranks rank count l (suc (suc (suc zero))) m = l
same_ranks rank count l (suc (suc (suc (suc k)))) m = absurd (omega (arith, m))

-- each of four, as the function gives it
pub four_at : (f : ℕ → ℕ) (xs : List ℕ) → length xs ≡ 4 → (k : ℕ) → k < 4 → get_or (map f xs) k 0 ≡ f (get_or xs k 0)
four_at f [] e k l = absurd (omega (arith, e))
four_at f (x ∷ xs) e zero l = refl
four_at f (x ∷ []) e (suc k) l = absurd (omega (arith, e))
four_at f (x ∷ y ∷ xs) e (suc zero) l = refl
four_at f (x ∷ y ∷ []) e (suc (suc k)) l = absurd (omega (arith, e))
four_at f (x ∷ y ∷ z ∷ xs) e (suc (suc zero)) l = refl
four_at f (x ∷ y ∷ z ∷ []) e (suc (suc (suc k))) l = absurd (omega (arith, e))
four_at f (x ∷ y ∷ z ∷ w ∷ xs) e (suc (suc (suc zero))) l = refl
four_at f (x ∷ y ∷ z ∷ w ∷ xs) e (suc (suc (suc (suc k)))) l = absurd (omega (arith, l))

-- one function after another
pub map-after : (f g : ℕ → ℕ) (xs : List ℕ) → map f (map g xs) ≡ map (λ (x : ℕ). f (g x)) xs
map-after f g [] = refl
map-after f g (x ∷ xs) = rw (map-after f g xs)
