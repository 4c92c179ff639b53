use Rattle.host_area.proofs.Answers.{tell-said}
use Rattle.host_area.proofs.tell.Goals as goal

pub returns : goal.returns
returns c =
    let a = c.args in
    tell-said a.told a.observation.now _ _ _ _ _ _ _ _ _ _ _
    c.timestamp_of-timestamp.ensures c.low.ensures c.high.ensures
    c.sender_count.ensures c.received_count.ensures c.transmitted_count.ensures c.sequence_of.ensures
    c.counters_flag.ensures.0 c.sighted_flag.ensures.0 c.unknown_flag.ensures.0 c.flags_with-flags.ensures
