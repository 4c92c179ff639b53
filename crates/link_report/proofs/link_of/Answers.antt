use Rattle.link_report.proofs.link_of.Goals as goal

pub returns : goal.returns
returns c = λ i. record { ledger = c.load-ledger.ensures i; watch = c.args.watch }
