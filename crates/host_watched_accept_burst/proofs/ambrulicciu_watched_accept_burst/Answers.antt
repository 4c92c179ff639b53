use mathlib.Core.Path.{sym, ◌∙◌}
use Rattle.host_watched_accept_burst.proofs.Serving.{burst-ends}
use Rattle.host_watched_accept_burst.proofs.ambrulicciu_watched_accept_burst.Goals as goal

pub returns : goal.returns
returns c =
    let a = c.args in
    let s = c.serve in
    burst-ends a.ledger.now a.monitor.now a.keys.now a.slots.now a.probes.now a.links.now a.queue.now a.entries.now a.answers.now
    c.number.result c.served_of_list-count.result s.result
    s.new.ledger s.new.monitor s.new.keys s.new.slots s.new.probes s.new.links s.new.queue s.new.answers
    (c.number.ensures ∙ c.refusal_of_list-refused.ensures) c.served_of_list-count.ensures (s.ensures.0, s.ensures.1 ∙ sym c.number.ensures)
