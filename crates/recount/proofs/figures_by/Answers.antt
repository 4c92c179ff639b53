use Rattle.recount.proofs.Laws.{figures_are}
use Rattle.recount.proofs.figures_by.Goals as goal

pub direct-direct-requires : goal.direct-direct-requires
direct-direct-requires c = (c.requires.0, c.requires.1)

pub missing-missing-requires : goal.missing-missing-requires
missing-missing-requires c = (c.requires.0, c.requires.1)

pub round_trips-rtt-requires : goal.round_trips-rtt-requires
round_trips-rtt-requires c = (c.requires.0, c.requires.1)

pub returns : goal.returns
returns c = figures_are _ _ _ _ _ _ _ _ _ _ _ _ _ _ _ c.copies_of-asked.ensures c.played-played.ensures c.loss-loss.ensures c.replies-replies.ensures c.probes-probes.ensures c.order-order.ensures c.followup-followup.ensures c.direct-direct.ensures c.missing-missing.ensures c.round_trips-rtt.ensures
