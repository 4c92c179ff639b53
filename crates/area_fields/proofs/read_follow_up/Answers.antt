use Rattle.area_fields.proofs.Laws.{follow_up_there, follow_up_not}
use Rattle.area_fields.proofs.read_follow_up.Goals as goal

pub returns-then-value-eq16 : goal.returns-then-value-eq16
returns-then-value-eq16 c = follow_up_there c.args.value.now _ c.if-value-eq16.true c.follow_up_at.ensures

pub returns : goal.returns
returns c = follow_up_not c.args.value.now c.if-value-eq16.false
