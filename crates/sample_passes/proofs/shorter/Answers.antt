use Rattle.std.proofs.Common.{refl, inl, inr, arith}
use Rattle.sample_passes.proofs.shorter.Goals as goal

-- Assumes nothing.
pub returns-then-d-distance : goal.returns-then-d-distance
returns-then-d-distance c = (omega (arith, c.if-d-distance.true), inl (refl, c.if-d-distance.true))

pub returns : goal.returns
returns c = (omega arith, inr (refl, c.if-d-distance.false))
