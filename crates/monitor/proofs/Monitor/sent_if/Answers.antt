use Rattle.monitor.proofs.Storing.{stores}
use Rattle.monitor.proofs.Monitor.sent_if.Goals as goal

pub returns : goal.returns
returns c = stores c.args.go c.args.self c.args.queue.now c.args.sequence c.args.time c.back-at.result c.probe-probe.result c.push.new.queue c.queued.result c.back-at.ensures c.probe-probe.ensures c.push.ensures c.queued.ensures
