use mathlib.Core.Path.{◌≡◌, ◌∙◌, ap, ap₂}
use mathlib.Core.Bool.{◌&&◌}
use Prim.Native.Nat.{ℕ}
use lib.Dec.{leb}
use Rattle.extremes.proofs.is_between.Goals as goal

-- the tests of three words, by what they are
tested : (a b c x y z : ℕ) → a ≡ x → b ≡ y → c ≡ z → leb a b && leb b c ≡ leb x y && leb y z
tested a b c x y z e f g = ap₂ (λ (i j : ℕ). leb i j && leb j c) e f ∙ ap (λ (k : ℕ). leb x y && leb y k) g

pub returns : goal.returns
returns c = tested _ _ _ _ _ _ c.ordered-low.ensures c.ordered-is.ensures c.ordered-high.ensures
