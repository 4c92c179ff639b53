-- The number of a refusal is not the one that says that a call was served. Assumes nothing.
use Rattle.std.proofs.Common.{◌≡◌, arith}
use Rattle.limits.specs.declared.Refusal.{Refusal}
use Rattle.limits.specs.Numbers.{number_of}
use Rattle.limits.proofs.Numbers.{number_above}

pub some_number : (r : Refusal) → number_of r ≡ 0 → ⊥
some_number r e = omega (arith, number_above r, e)
