use Rattle.std.proofs.lemmas.Result.{err_from_is_err_and}
use Rattle.area_observation.proofs.Laws.{told-bad, told-nothing, told_some}
use Rattle.area_observation.proofs.told_of.Goals as goal

pub returns-then-found : goal.returns-then-found
returns-then-found c = told-nothing c.args.bytes.now _ c.in_ok-found.ensures.0 c.if-found.true

pub counters_from-requires : goal.counters_from-requires
counters_from-requires c = c.in_ok-found.ensures.1.0

pub sighted_from-requires : goal.sighted_from-requires
sighted_from-requires c = c.in_ok-found.ensures.1.1

pub returns-in_err-found : goal.returns-in_err-found
returns-in_err-found c =
    let p = err_from_is_err_and c.from_residual.result c.from_residual.ensures.1 in
    rw (p.1, p.2) (told-bad c.args.bytes.now _ c.in_err-found.ensures.0)

pub returns : goal.returns
returns c = told_some c.args.bytes.now _ _ _ c.in_ok-found.ensures.0 c.if-found.false c.counters_from.ensures c.sighted_from.ensures
