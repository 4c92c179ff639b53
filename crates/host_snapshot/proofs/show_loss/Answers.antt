use Rattle.host_snapshot.proofs.Steps.{loss_is}
use Rattle.host_snapshot.proofs.show_loss.Goals as goal

pub returns : goal.returns
returns c =
    let a = c.args in
    loss_is a.ledger.now a.shown.now _ _ _ _ c.replies_of-replies.ensures c.unobserved_replies-unobserved.ensures c.thousandths_of-thousandths.ensures c.place_loss.ensures
