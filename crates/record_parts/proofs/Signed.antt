-- A signed value that goes through its bits is the value, at every width. Assumes nothing.
use mathlib.Core.Path.{◌≡◌, ap, ◌∙◌}
use Prim.Native.Nat.{ℕ}
use lib.IntN.{ℤ}
use mir.Syntax.{Width}
use mir.Val.{Fits, SFits, of_z, to_z}
use mir.ValLaws.{to_z-of_z, to_z-Fits}

-- a signed result that is what a word says
pub read-signed : (w : Width) (z : ℤ) (n : ℕ) → Fits w n → z ≡ to_z w n → to_z w (of_z w z) ≡ to_z w n
read-signed w z n f e = ap (λ (x : ℤ). to_z w (of_z w x)) e ∙ to_z-of_z w (to_z w n) (to_z-Fits w n f)

-- the bits of a signed value that fits, read and written again
pub bits_again : (w : Width) (z : ℤ) → SFits w z → of_z w (to_z w (of_z w z)) ≡ of_z w z
bits_again w z f = ap (of_z w) (to_z-of_z w z f)
