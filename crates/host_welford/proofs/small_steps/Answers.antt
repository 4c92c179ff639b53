use Rattle.series.proofs.Kept.{left_of, right_of}
use Rattle.host_welford.proofs.Words.{small-said, no_nan}
use lib.Ieee.{binary64, of_bits, eq, add, sub, div}
use Rattle.host_welford.proofs.small_steps.Goals as goal

pub float_to_bits-result : goal.float_to_bits-result
float_to_bits-result c = no_nan _ (left_of _ _ c.if-next-sum.true)

pub float_to_bits-result-then-next-sum : goal.float_to_bits-result-then-next-sum
float_to_bits-result-then-next-sum c =
    let at = of_bits binary64 c.args.mean in
    let next = add binary64 at (div binary64 (sub binary64 c.difference-centered.result at) c.difference-samples.result) in
    no_nan _ (right_of (eq next next) _ c.if-next-sum.true)

pub returns-then-next-sum : goal.returns-then-next-sum
returns-then-next-sum c =
    let a = c.args in
    small-said a.origin a.mean a.m2 a.count a.value _ _ c.difference-centered.ensures c.difference-samples.ensures
