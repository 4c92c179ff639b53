use mathlib.Core.Path.{◌∙◌}
use Rattle.host_watched_accept_words.proofs.Joined.{accept-joined}
use Rattle.host_watched_accept_words.proofs.accept.Goals as goal

pub returns : goal.returns
returns c =
    let a = c.args in
    let g = c.accept_unless-given in
    accept-joined a.ledger.now a.monitor.now a.keys.now a.slots.now a.probes.now a.links.now a.queue.now a.reply
    c.number-other.result g.result g.new.ledger g.new.keys g.new.slots g.new.probes g.new.links
    c.was_unique-go.result c.sender_of-sender.result c.load-watch.result c.reply_if-next.result c.reply_if-next.new.queue c.finish.result c.finish.new.monitor
    (c.number-other.ensures ∙ c.refusal_of_monitor.ensures) g.ensures c.was_unique-go.ensures c.sender_of-sender.ensures c.load-watch.ensures c.reply_if-next.ensures c.finish.ensures
