use native.Mathlib.Omega.{arith}
use native.Mathlib.Nat.{mod-lt}
use Rattle.chains.specs.Hash.{key_hash}
use Rattle.chains.proofs.key_hash.Goals as goal

pub returns : goal.returns
unfolding key_hash
returns c = (rw (c.products-first.ensures.0, c.products-second.ensures.0), mod-lt _ (omega arith))
