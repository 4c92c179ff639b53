use mathlib.Core.Path.{refl}
use Rattle.spread.proofs.Steps.{sum_below, differences-below, count-below}
use Rattle.host_spread.specs.Words.{collector_at}
use Rattle.host_spread.proofs.Short.{more_said}
use Rattle.host_spread.proofs.store_more.Goals as goal

pub sum_with-sum-requires : goal.sum_with-sum-requires
sum_with-sum-requires c = sum_below (collector_at c.args.words.now) c.requires.0

pub with-jitter-requires : goal.with-jitter-requires
with-jitter-requires c =
    let s = collector_at c.args.words.now in
    (differences-below s c.requires.0, count-below s c.requires.0)

pub returns : goal.returns
returns c =
    let a = c.args in
    (more_said a.words.now a.value _ _ _ _ c.requires.1 c.steps-floats.ensures c.from_u64.ensures c.sum_with-sum.ensures c.with-jitter.ensures, refl)
