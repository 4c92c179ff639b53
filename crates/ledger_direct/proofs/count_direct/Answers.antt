use mathlib.Core.Path.{refl}
use Rattle.chains.specs.Hash.{number_hash}
use Rattle.ledger_direct.proofs.Steps.{counted}
use Rattle.ledger_direct.proofs.count_direct.Goals as goal

pub returns-in-None : goal.returns-in-None
returns-in-None c =
    counted _ (number_hash c.args.secret) c.args.direct c.args.offsets.now c.args.links.now c.args.observation _ _ c.in-None.is refl

pub returns-in-Some : goal.returns-in-Some
returns-in-Some c =
    counted _ (number_hash c.args.secret) c.args.direct c.args.offsets.now c.args.links.now c.args.observation _ _ c.in-Some.is c.measure.ensures
