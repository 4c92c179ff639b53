use native.Mathlib.Omega.{arith}
use Rattle.std.proofs.lemmas.Result.{err_from_is_err_and}
use Rattle.area_write.proofs.Laws.{bad_here, bad_later, bad-none}
use Rattle.area_write.proofs.first_bad.Goals as goal

pub returns-in_err-verdict : goal.returns-in_err-verdict
returns-in_err-verdict c =
    let l = c.loop-word in
    let a = c.args in
    let p = err_from_is_err_and c.from_residual.result c.from_residual.ensures.1 in
    rw (p.1, p.2) (bad_here a.values.now a.items.now l.word-index (omega arith) _ c.in_err-verdict.ensures l.invariant)

pub loop-word-preserved : goal.loop-word-preserved
loop-word-preserved c =
    let l = c.loop-word in
    let a = c.args in
    bad_later a.values.now a.items.now l.word-index (omega arith) c.in_ok-verdict.ensures l.invariant

pub returns : goal.returns
returns c =
    let l = c.loop-word in
    let a = c.args in
    bad-none a.values.now a.items.now l.word-index (omega arith) (omega arith) l.invariant
