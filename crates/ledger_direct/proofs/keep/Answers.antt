use Rattle.direct.specs.declared.Offsets.TheVariants.{Begun}
use Rattle.offset_set.specs.Offsets.{offset_set}
use Rattle.ledger_direct.proofs.Steps.{kept-as}
use Rattle.ledger_direct.proofs.keep.Goals as goal

pub returns-in-Begun : goal.returns-in-Begun
returns-in-Begun c =
    kept-as _ _ c.args.after Begun (offset_set c.args.offsets.now c.args.links.now c.args.count) _ _ _ c.in-Begun.is c.add.ensures

pub returns-in-Added : goal.returns-in-Added
returns-in-Added c =
    kept-as _ _ c.args.after _ (offset_set c.args.offsets.now c.args.links.now c.args.count) _ _ _ c.in-Added.is c.add-in-Added.ensures
