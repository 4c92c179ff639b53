-- A list of known length is the list of its entries, so that what is stored at a place and read at another computes.
-- Assumes nothing.
use mathlib.Core.Path.{◌≡◌, refl, ap}
use mathlib.Core.List.{List, [], ◌∷◌}
use Prim.Native.Nat.{ℕ, zero, suc}
use native.Mathlib.Omega.{arith}
use lib.ListN.{length, get_or}

-- the list f 0, f 1, .. of n entries
abbrev pub entries : ℕ → (ℕ → ℕ) → List ℕ
entries zero f = []
entries (suc n) f = f 0 ∷ entries n (λ i. f (suc i))

pub spelled : (w : List ℕ) (n : ℕ) → length w ≡ n → w ≡ entries n (λ i. get_or w i 0)
spelled [] zero e = refl
spelled [] (suc n) e = absurd (omega (arith, e))
spelled (x ∷ w) zero e = absurd (omega (arith, e))
spelled (x ∷ w) (suc n) e = ap (λ (v : List ℕ). x ∷ v) (spelled w n (omega (arith, e)))
