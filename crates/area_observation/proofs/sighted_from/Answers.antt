use Rattle.area_observation.proofs.Laws.{no_follow_up, some_follow_up}
use Rattle.area_observation.proofs.sighted_from.Goals as goal

pub returns-then-at-eq0 : goal.returns-then-at-eq0
returns-then-at-eq0 c = no_follow_up c.args.bytes.now c.args.at c.if-at-eq0.true

pub follow_up_at-item-requires : goal.follow_up_at-item-requires
follow_up_at-item-requires c = c.requires c.if-at-eq0.false

pub returns : goal.returns
returns c =
    let a = c.args in
    some_follow_up a.bytes.now a.at _ _ c.if-at-eq0.false c.follow_up_at-item.ensures c.unknown_mode-unknown.ensures
