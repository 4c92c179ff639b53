use mathlib.Core.Path.{ap₂}
use Prim.Native.Nat.{ℕ}
use lib.Dec.{ltb}
use Rattle.extremes.proofs.above.Goals as goal

pub returns : goal.returns
returns c = ap₂ (λ (x y : ℕ). ltb x y) c.ordered-high.ensures c.ordered-low.ensures
