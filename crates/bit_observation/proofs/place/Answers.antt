use native.Mathlib.Omega.{arith}
use Rattle.bit_observation.specs.Items.{start_of, length_of}
use Rattle.bit_observation.specs.Items.{value_of}
use Rattle.bit_observation.proofs.Laws.{part-value}
use Rattle.bit_observation.proofs.place.Goals as goal

pub returns : goal.returns
unfolding value_of
returns c =
    let a = c.args in
    record { order = omega (arith, c.min-taken.ensures); inside = omega (arith, c.min-from.ensures, c.min-taken.ensures); value = part-value a.bytes.now (start_of a.word) (length_of a.word) _ _ c.min-from.ensures c.min-taken.ensures }
