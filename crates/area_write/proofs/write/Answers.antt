use mathlib.Core.Path.{sym}
use Rattle.std.proofs.lemmas.Result.{err_from_is_err_and}
use Rattle.area_write.proofs.Laws.{write-bad, write_short, size_is, write-good}
use Rattle.area_write.proofs.write.Goals as goal

pub returns-in_err-first_bad : goal.returns-in_err-first_bad
returns-in_err-first_bad c =
    let a = c.args in
    let p = err_from_is_err_and c.from_residual.result c.from_residual.ensures.1 in
    rw (p.1, p.2) (write-bad a.items.now a.values.now a.room.now _ c.in_err-first_bad.ensures)

pub put_items-requires : goal.put_items-requires
put_items-requires c =
    let a = c.args in
    (sym c.in_ok-first_bad.ensures, size_is a.items.now a.values.now a.room.now c.in_ok-first_bad.ensures _ c.in-Some.ensures)

pub returns-in_default : goal.returns-in_default
returns-in_default c =
    let a = c.args in
    write_short a.items.now a.values.now a.room.now c.in_ok-first_bad.ensures c.in_default.ensures

pub returns : goal.returns
returns c =
    let a = c.args in
    write-good a.items.now a.values.now a.room.now c.in_ok-first_bad.ensures _ _ c.in-Some.ensures c.put_items.ensures
