use native.Mathlib.Omega.{arith}
use Rattle.key_ring.proofs.numbers.Goals as goal

pub returns : goal.returns
returns c = omega arith
