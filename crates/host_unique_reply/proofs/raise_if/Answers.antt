use Rattle.std.proofs.Common.{Bool, get_or, set, sym, ap, ◌∙◌}
use lib.Seq.{set-get_or}
use Rattle.replies.specs.Served.{tally}
use Rattle.host_unique_reply.specs.Stored.{raised}
use Rattle.host_unique_reply.proofs.raise_if.Goals as goal

pub returns-then-test : goal.returns-then-test
unfolding raised
returns-then-test c =
    let a = c.args in
    ap (λ (b : Bool). set a.ledger.now a.at (tally b (get_or a.ledger.now a.at 0))) (sym c.if-test.true)

pub returns-else-test : goal.returns-else-test
unfolding raised
returns-else-test c =
    let a = c.args in
    sym (set-get_or a.ledger.now a.at 0)
    ∙ ap (λ (b : Bool). set a.ledger.now a.at (tally b (get_or a.ledger.now a.at 0))) (sym c.if-test.false)
