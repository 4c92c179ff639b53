use Rattle.host_watched_accept.proofs.Ended.{accept-ends}
use Rattle.host_watched_accept.proofs.ambrulicciu_watched_accept.Goals as goal

pub returns : goal.returns
returns c =
    let a = c.args in
    let g = c.accept-given in
    accept-ends a.ledger.now a.monitor.now a.keys.now a.slots.now a.probes.now a.links.now a.queue.now a.sender a.reflector a.t3 a.pending a.time a.tag a.answer.now
    c.reply_of-reply.result g.result g.new.ledger g.new.monitor g.new.keys g.new.slots g.new.probes g.new.links g.new.queue c.show.result c.show.new.answer
    c.reply_of-reply.ensures g.ensures c.show.ensures
