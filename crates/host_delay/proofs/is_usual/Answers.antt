use Rattle.host_delay.proofs.Laws.{sum_above, sum_below, both_below, both-above}
use Rattle.host_delay.proofs.is_usual.Goals as goal

pub returns-then-ledger-ne1 : goal.returns-then-ledger-ne1
returns-then-ledger-ne1 c = sum_above c.args.ledger.now c.args.ns c.if-ns.true c.if-ledger-ne1.true

pub returns-then-ns : goal.returns-then-ns
returns-then-ns c = both_below c.args.ledger.now c.args.ns _ c.if-ns.true c.if-ledger-ne1.false c.lies_within.ensures

pub returns-then-ledger-ne0 : goal.returns-then-ledger-ne0
returns-then-ledger-ne0 c = sum_below c.args.ledger.now c.args.ns c.if-ns.false c.if-ledger-ne0.true

pub returns : goal.returns
returns c = both-above c.args.ledger.now c.args.ns _ c.if-ns.false c.if-ledger-ne0.false c.lies_within-2.ensures
