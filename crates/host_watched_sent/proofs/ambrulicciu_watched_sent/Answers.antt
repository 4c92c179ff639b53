use mathlib.Core.Path.{refl, ◌∙◌}
use Rattle.host_watched_sent.proofs.Ended.{sent_ends}
use Rattle.host_watched_sent.proofs.ambrulicciu_watched_sent.Goals as goal

pub returns : goal.returns
returns c =
    let a = c.args in
    let s = c.sent_unless-number in
    sent_ends a.ledger.now a.monitor.now a.probes.now a.links.now a.queue.now a.sequence a.ordinal a.train a.time a.tag
    c.probe_of-probe.result c.number-other.result s.result s.new.ledger s.new.probes s.new.links
    _ c.load-watch.result c.sent_if-next.result c.sent_if-next.new.queue c.finish.result c.finish.new.monitor
    c.probe_of-probe.ensures (c.number-other.ensures ∙ c.refusal_of_monitor.ensures) s.ensures refl c.load-watch.ensures c.sent_if-next.ensures c.finish.ensures
