use Rattle.std.proofs.Common.{ap, ◌∙◌, Ok, None, Err}
use Rattle.std.proofs.lemmas.Result.{err_from_is_err_and}
use Rattle.directions.proofs.Steps.{way_own, way_own-counted}
use Rattle.directions.proofs.Directions.record.Goals as goal

pub returns-in_err-record_own : goal.returns-in_err-record_own
returns-in_err-record_own c =
    let a = c.args in
    let p = err_from_is_err_and c.from_residual.result c.from_residual.ensures.1 in
    rw (p.1, p.2) (way_own a.self a.slice.now a.value a.reverse _ _ (Err _) _ c.own_of-own.ensures c.record_own.ensures c.in_err-record_own.was)

pub returns-in-None : goal.returns-in-None
returns-in-None c =
    let a = c.args in
    way_own a.self a.slice.now a.value a.reverse _ _ (Ok None) _ c.own_of-own.ensures c.record_own.ensures (c.in_ok-record_own.was ∙ ap Ok c.in-None.is)

pub returns-in-Some : goal.returns-in-Some
returns-in-Some c =
    let a = c.args in
    way_own-counted a.self a.slice.now a.value a.reverse _ _ _ _ _ c.own_of-own.ensures c.record_own.ensures (c.in_ok-record_own.was ∙ ap Ok c.in-Some.is) c.with_own.ensures
