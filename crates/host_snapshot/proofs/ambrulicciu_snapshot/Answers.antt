use Rattle.host_snapshot.proofs.Steps.{shown_is}
use Rattle.host_snapshot.proofs.ambrulicciu_snapshot.Goals as goal

pub returns : goal.returns
returns c =
    let s = c.before.before.before.before.before.before.before.before.before.before.before.before.before.before.before.before in
    shown_is s.args.ledger.now s.args.shown.now c.show_replies.ensures.1 _ _ _ _ _ _ _ _ c.show_replies.ensures.0 c.show_loss.ensures
    c.show_round_trips.ensures c.show_direct.ensures c.show_follow_counts.ensures c.show_delay.ensures c.show_quality.ensures c.show_evicted.ensures
