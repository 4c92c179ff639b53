use Rattle.std.proofs.Common.{arith}
use Rattle.log_play.proofs.Laws.{begins_played, plays_on, all_played}
use Rattle.log_play.proofs.play_records.Goals as goal

pub loop-i-init : goal.loop-i-init
loop-i-init c =
    (begins_played c.args.start c.args.log.now c.args.count c.args.ledger.now c.args.keys.now c.args.slots.now c.args.probes.now c.args.offsets.now c.args.links.now c.args.queue.now, omega arith)

pub loop-i-preserved : goal.loop-i-preserved
loop-i-preserved c =
    let l = c.loop-i in
    let s = c.play_record-step in (
      plays_on c.args.start c.args.log.now c.args.count c.args.ledger.now c.args.keys.now c.args.slots.now c.args.probes.now c.args.offsets.now c.args.links.now c.args.queue.now
          l.i l.watch l.turned l.ledger l.keys l.slots l.probes l.offsets l.links l.queue
          s.result s.new.ledger s.new.keys s.new.slots s.new.probes s.new.offsets s.new.links s.new.queue _ _
          l.invariant.0 c.loop-i-test.true s.ensures c.count_refused-turned.ensures c.watch_of-watch.ensures,
      omega arith,
    )

pub returns : goal.returns
returns c =
    let l = c.loop-i in
    all_played c.args.start c.args.log.now c.args.count c.args.ledger.now c.args.keys.now c.args.slots.now c.args.probes.now c.args.offsets.now c.args.links.now c.args.queue.now
    l.i l.watch l.turned l.ledger l.keys l.slots l.probes l.offsets l.links l.queue _ l.invariant.0 l.invariant.1 c.loop-i-test.false c.tally_of.ensures
