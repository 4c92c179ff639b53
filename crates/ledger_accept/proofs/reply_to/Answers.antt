use Rattle.ledger_accept.proofs.Steps.{replied-before, replied_context, replied_rows_lem}
use Rattle.ledger_accept.proofs.reply_to.Goals as goal

pub returns : goal.returns
returns c =
    let b = c.args in
    let rows = b.probes.now in
    let got = c.get-probe.ensures in
    let after = c.after_reply-after.ensures in (
      replied-before rows b.slot b.pending _ _ got after,
      replied_context rows b.slot b.pending _ _ got after,
      replied_rows_lem rows b.slot b.pending _ _ got after _ c.put.ensures,
    )
