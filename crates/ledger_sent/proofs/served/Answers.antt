use native.Mathlib.Omega.{arith}
use Rattle.ledger_sent.proofs.Steps.{remembered-is}
use Rattle.ledger_sent.proofs.served.Goals as goal

pub overflow_add-result : goal.overflow_add-result
overflow_add-result c = omega (arith, c.requires.counts.calls-below)

pub returns : goal.returns
returns c =
    let args = c.args in
    remembered-is args.ledger args.probes.now args.links.now args.probe
    c.words.result c.remember-kept.result _ _ c.sent.result
    c.words.ensures c.remember-kept.ensures.0 c.sent.ensures
