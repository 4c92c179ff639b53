use mathlib.Core.Path.{refl}
use mathlib.Core.Logic.{inl, inr}
use native.Mathlib.Omega.{arith}
use Rattle.sample_place.proofs.part.Goals as goal

-- Assumes nothing.
pub overflow_sub-result : goal.overflow_sub-result
overflow_sub-result c = omega (arith, c.requires.0 c.if-search-under.true)

pub returns-then-search-under : goal.returns-then-search-under
returns-then-search-under c = inl (c.if-search-under.true, refl)

pub returns-then-search-reach : goal.returns-then-search-reach
returns-then-search-reach c = inr (inl (c.if-search-under.false, c.if-search-reach.true, c.ended.ensures))

pub overflow_add-result : goal.overflow_add-result
overflow_add-result c = omega (arith, c.requires.1 c.if-search-reach.false)

pub returns : goal.returns
returns c = inr (inr (c.if-search-reach.false, refl))
