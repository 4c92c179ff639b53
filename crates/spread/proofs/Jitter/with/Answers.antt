use Rattle.spread.proofs.Steps.{jitter_first, jitter_later}
use Rattle.spread.proofs.Jitter.with.Goals as goal

pub returns-then-first : goal.returns-then-first
returns-then-first c =
    let a = c.args in
    jitter_first a.self a.first a.value c.if-first.true

pub returns : goal.returns
returns c =
    let a = c.args in
    jitter_later a.self a.first a.value _ _ _ c.if-first.false c.abs_diff.ensures c.from_u64-apart.ensures c.sum_with-sum.ensures
