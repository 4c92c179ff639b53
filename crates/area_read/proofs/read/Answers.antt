use native.Mathlib.Omega.{arith}
use Rattle.std.proofs.lemmas.Result.{err_from_is_err_and}
use Rattle.area_read.proofs.Laws.{bad-area, count_is, good-area}
use Rattle.area_read.proofs.read.Goals as goal

pub list-requires : goal.list-requires
list-requires c =
    let n = count_is c.args.bytes.now c.args.room.now _ c.in_ok-count.ensures in
    (omega arith, omega (arith, n))

pub returns-in_err-count : goal.returns-in_err-count
returns-in_err-count c =
    let p = err_from_is_err_and c.from_residual.result c.from_residual.ensures.1 in
    rw (p.1, p.2) (bad-area c.args.bytes.now c.args.room.now _ c.in_err-count.ensures)

pub returns : goal.returns
returns c = good-area c.args.bytes.now c.args.room.now _ _ _ c.in_ok-count.ensures c.min.ensures c.list.ensures
