use native.Mathlib.Omega.{arith}
use native.Mathlib.Nat.{mod-lt}
use Rattle.chains.specs.Hash.{number_hash}
use Rattle.chains.proofs.number_hash.Goals as goal

pub returns : goal.returns
unfolding number_hash
returns c = (rw (c.times.ensures.0, c.times-2.ensures.0, c.wide_word-wide.ensures.0), mod-lt _ (omega arith))
