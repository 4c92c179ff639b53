use Rattle.std.proofs.Common.{arith}
use Rattle.limits.specs.Numbers.{number}
use Rattle.host_watched_accept_burst.proofs.Serving.{begins_serving, serves_on, all_served}
use Rattle.host_watched_accept_burst.proofs.serve.Goals as goal

pub loop-i-init : goal.loop-i-init
loop-i-init c =
    let a = c.args in
    (omega arith, begins_serving a.ledger.now a.monitor.now a.keys.now a.slots.now a.probes.now a.links.now a.queue.now a.entries.now a.count a.answers.now (number a.refused))

pub loop-i-preserved : goal.loop-i-preserved
loop-i-preserved c =
    let a = c.args in
    let l = c.loop-i in
    let g = c.accept-given in (
      omega arith,
      serves_on a.ledger.now a.monitor.now a.keys.now a.slots.now a.probes.now a.links.now a.queue.now a.entries.now a.count a.answers.now (number a.refused)
          l.i l.ledger l.monitor l.keys l.slots l.probes l.links l.queue l.answers
          c.reply_at-reply.result g.result g.new.ledger g.new.monitor g.new.keys g.new.slots g.new.probes g.new.links g.new.queue c.put_given.new.answers
          l.invariant.1 c.loop-i-test.true c.reply_at-reply.ensures g.ensures c.put_given.ensures,
    )

pub returns : goal.returns
returns c =
    let a = c.args in
    let l = c.loop-i in
    all_served a.ledger.now a.monitor.now a.keys.now a.slots.now a.probes.now a.links.now a.queue.now a.entries.now a.count a.answers.now (number a.refused)
    l.i l.ledger l.monitor l.keys l.slots l.probes l.links l.queue l.answers c.number.result
    l.invariant.1 l.invariant.0 c.loop-i-test.false c.number.ensures
