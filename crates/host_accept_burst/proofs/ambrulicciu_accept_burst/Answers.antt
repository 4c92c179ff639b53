use mathlib.Core.Path.{◌∙◌}
use Rattle.host_accept_burst.proofs.Serving.{burst-ends}
use Rattle.host_accept_burst.proofs.ambrulicciu_accept_burst.Goals as goal

pub returns : goal.returns
returns c =
    let a = c.args in
    burst-ends a.ledger.now a.keys.now a.slots.now a.probes.now a.links.now a.entries.now a.answers.now _ _ _ _ _ _ _ _
    (c.number-refusal.ensures ∙ c.refusal_of_list.ensures) c.served_of_list-count.ensures c.serve.ensures
