use Rattle.limits.specs.Numbers.{numbered}
use Rattle.link_report.proofs.Laws.{reports_alone}
use Rattle.link_report.proofs.report_log_alone.Goals as goal

pub returns : goal.returns
returns c =
    let p = c.report_log in
    reports_alone c.args.log.now c.args.secret.now c.args.keys.now c.args.slots.now c.args.probes.now c.args.offsets.now c.args.links.now c.args.text.now
    c.empty_queue-queue.result (numbered p.result) p.new.keys p.new.slots p.new.probes p.new.offsets p.new.links p.new.queue p.new.text
    c.empty_queue-queue.ensures p.ensures
