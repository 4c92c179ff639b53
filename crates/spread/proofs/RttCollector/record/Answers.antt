use Rattle.spread.specs.Record.{outcome}
use Rattle.spread.proofs.Steps.{way_refused, way_full, counted-fits, way_counted}
use Rattle.std.proofs.Common.{ap, ◌∙◌, Ok}
use Rattle.std.proofs.lemmas.Result.{err_from_is_err_and}
use Rattle.spread.proofs.RttCollector.record.Goals as goal

pub returns-in_err-record_beside : goal.returns-in_err-record_beside
unfolding outcome
returns-in_err-record_beside c =
    let a = c.args in
    let p = err_from_is_err_and c.from_residual.result c.from_residual.ensures.1 in
    rw (p.1, p.2) (way_refused a.self a.room.now a.value _ _ _ c.sums_fit-fits.ensures c.record_beside.ensures _ c.in_err-record_beside.was)

pub grown-requires : goal.grown-requires
grown-requires c =
    let a = c.args in
    counted-fits a.self a.room.now a.value _ _ _ c.sums_fit-fits.ensures c.record_beside.ensures _ (c.in_ok-record_beside.was ∙ ap Ok c.in-Some.is)

pub returns-in-None : goal.returns-in-None
unfolding outcome
returns-in-None c =
    let a = c.args in
    way_full a.self a.room.now a.value _ _ _ c.sums_fit-fits.ensures c.record_beside.ensures (c.in_ok-record_beside.was ∙ ap Ok c.in-None.is)

pub returns-in-Some : goal.returns-in-Some
unfolding outcome
returns-in-Some c =
    let a = c.args in
    way_counted a.self a.room.now a.value _ _ _ c.sums_fit-fits.ensures c.record_beside.ensures _ _ (c.in_ok-record_beside.was ∙ ap Ok c.in-Some.is) c.grown.ensures
