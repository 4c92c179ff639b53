use Rattle.recount.proofs.Laws.{rooms_for, refused_is, counted_is}
use Rattle.recount.proofs.recount_log.Goals as goal

pub recount_good-requires : goal.recount_good-requires
recount_good-requires c = rooms_for c.args.log.now c.args.marks.now c.args.fronts.now c.args.text.now _ _ _ c.rooms_fit-fit.ensures c.check-found.ensures c.checked_by-checked.ensures _ c.in-Ok.is

pub returns-in-Err : goal.returns-in-Err
returns-in-Err c = refused_is c.args.log.now c.args.marks.now c.args.fronts.now c.args.text.now _ _ _ c.rooms_fit-fit.ensures c.check-found.ensures c.checked_by-checked.ensures _ c.in-Err.is

pub returns-in-Ok : goal.returns-in-Ok
returns-in-Ok c = counted_is c.args.log.now c.args.marks.now c.args.fronts.now c.args.text.now _ _ _ c.rooms_fit-fit.ensures c.check-found.ensures c.checked_by-checked.ensures _ _ c.in-Ok.is c.recount_good.ensures
