use Rattle.host_direct_loss.proofs.Laws.{tested_as}
use Rattle.host_direct_loss.proofs.goes_on.Goals as goal

pub returns : goal.returns
returns c =
    let s = c in
    tested_as s.args.epoch s.args.point s.args.ordinal _ _ _ _ _ c.in-Some.is
    c.transmit_offset-transmitted.ensures c.sender_since-sender.ensures c.received_since-received.ensures c.transmit_offset-highest.ensures
