-- Lists of twelve words, as a collector's and as both directions'. Assumes nothing.
use mathlib.Core.Path.{◌≡◌}
use mathlib.Core.List.{List, [], ◌∷◌}
use Prim.Native.Nat.{ℕ}
use native.Mathlib.Omega.{arith}
use lib.ListN.{length}

-- what holds of every twelve words holds of a list of twelve
pub twelve : (P : List ℕ → Type 0) → ((a b c d e f g h i j k l : ℕ) → P (a ∷ b ∷ c ∷ d ∷ e ∷ f ∷ g ∷ h ∷ i ∷ j ∷ k ∷ l ∷ [])) → (ws : List ℕ) → length ws ≡ 12 → P ws
twelve P each [] n = absurd (omega arith)
twelve P each (a ∷ []) n = absurd (omega arith)
twelve P each (a ∷ b ∷ []) n = absurd (omega arith)
twelve P each (a ∷ b ∷ c ∷ []) n = absurd (omega arith)
twelve P each (a ∷ b ∷ c ∷ d ∷ []) n = absurd (omega arith)
twelve P each (a ∷ b ∷ c ∷ d ∷ e ∷ []) n = absurd (omega arith)
twelve P each (a ∷ b ∷ c ∷ d ∷ e ∷ f ∷ []) n = absurd (omega arith)
twelve P each (a ∷ b ∷ c ∷ d ∷ e ∷ f ∷ g ∷ []) n = absurd (omega arith)
twelve P each (a ∷ b ∷ c ∷ d ∷ e ∷ f ∷ g ∷ h ∷ []) n = absurd (omega arith)
twelve P each (a ∷ b ∷ c ∷ d ∷ e ∷ f ∷ g ∷ h ∷ i ∷ []) n = absurd (omega arith)
twelve P each (a ∷ b ∷ c ∷ d ∷ e ∷ f ∷ g ∷ h ∷ i ∷ j ∷ []) n = absurd (omega arith)
twelve P each (a ∷ b ∷ c ∷ d ∷ e ∷ f ∷ g ∷ h ∷ i ∷ j ∷ k ∷ []) n = absurd (omega arith)
twelve P each (a ∷ b ∷ c ∷ d ∷ e ∷ f ∷ g ∷ h ∷ i ∷ j ∷ k ∷ l ∷ []) n = each a b c d e f g h i j k l
twelve P each (a ∷ b ∷ c ∷ d ∷ e ∷ f ∷ g ∷ h ∷ i ∷ j ∷ k ∷ l ∷ m ∷ r) n = absurd (omega arith)
