use Rattle.chains.specs.Hash.{number_hash}
use Rattle.host_direct_loss.proofs.Laws.{untold_as, told_as}
use Rattle.host_direct_loss.proofs.count.Goals as goal

pub returns-in-None : goal.returns-in-None
returns-in-None c =
    let s = c in
    untold_as (number_hash s.args.secret) s.args.ledger.now s.args.offsets.now s.args.links.now s.args.told c.in-None.is

pub returns-in-Some : goal.returns-in-Some
returns-in-Some c =
    let s = c in
    told_as s.args.told.counters _ s.args.ledger.now _ _ c.in-Some.is c.count_point.ensures
