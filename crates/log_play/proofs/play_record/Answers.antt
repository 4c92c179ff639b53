use mathlib.Core.Path.{◌∙◌}
use Rattle.log_play.proofs.Steps.{steps}
use Rattle.log_play.proofs.play_record.Goals as goal

pub returns : goal.returns
returns c =
    let p = c.ledger_part-part in
    steps c.args.watch c.args.log.now c.args.i c.args.ledger.now c.args.keys.now c.args.slots.now c.args.probes.now c.args.offsets.now c.args.links.now c.args.queue.now
    c.record_at-read.result c.number-other.result p.result p.new.ledger p.new.keys p.new.slots p.new.probes p.new.offsets p.new.links c.monitor_of-monitor.result
    c.goes-sends.result c.goes-hears.result c.goes-advances.result c.sequence_of-sequence.result c.time_of-time.result
    c.sent_if-first.result _ c.reply_if-second.result _ c.advance_if-third.result _ c.step_of.result
    c.record_at-read.ensures (c.number-other.ensures ∙ c.refusal_of.ensures) p.ensures c.monitor_of-monitor.ensures c.goes-sends.ensures c.goes-hears.ensures c.goes-advances.ensures
    c.sequence_of-sequence.ensures c.time_of-time.ensures c.sent_if-first.ensures c.reply_if-second.ensures c.advance_if-third.ensures c.step_of.ensures
