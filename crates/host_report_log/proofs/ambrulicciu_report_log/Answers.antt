use Rattle.limits.specs.Numbers.{numbered}
use Rattle.host_report_log.proofs.Laws.{log_told}
use Rattle.host_report_log.proofs.ambrulicciu_report_log.Goals as goal

pub returns : goal.returns
returns c =
    let p = c.report_log-answer in
    log_told c.args.log.now c.args.secret.now c.args.keys.now c.args.slots.now c.args.probes.now c.args.offsets.now c.args.links.now c.args.queue.now c.args.text.now c.args.length.now
    (numbered p.result) p.new.keys p.new.slots p.new.probes p.new.offsets p.new.links p.new.queue p.new.text _ _
    p.ensures c.tell.ensures
