use Rattle.limits.specs.Numbers.{numbered}
use Rattle.link_report.proofs.Laws.{reports}
use Rattle.link_report.proofs.report_log.Goals as goal

pub returns : goal.returns
returns c =
    let p = c.play_records-tally in
    reports c.args.log.now c.args.secret.now c.args.keys.now c.args.slots.now c.args.probes.now c.args.offsets.now c.args.links.now c.args.queue.now c.args.text.now
    c.rooms_fit-fit.result c.check-found.result c.checked_by-checked.result c.settings_of-settings.result c.watch_of-start.result c.ledger_of-ledger.result c.count_of-count.result
    p.result p.new.ledger p.new.keys p.new.slots p.new.probes p.new.offsets p.new.links p.new.queue (numbered c.write_checked.result) c.write_checked.new.text
    c.rooms_fit-fit.ensures c.check-found.ensures c.checked_by-checked.ensures c.settings_of-settings.ensures
    c.watch_of-start.ensures c.ledger_of-ledger.ensures c.count_of-count.ensures p.ensures c.write_checked.ensures
