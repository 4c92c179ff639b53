use native.Mathlib.Omega.{arith}
use Rattle.chains.specs.Hash.{products_of}
use Rattle.chains.proofs.products.Goals as goal

pub returns : goal.returns
unfolding products_of
returns c = (rw (c.times.ensures.0, c.times-2.ensures.0, c.times-3.ensures.0), omega arith)
