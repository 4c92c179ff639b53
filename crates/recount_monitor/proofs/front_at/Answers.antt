use Rattle.recount_monitor.proofs.Turns.{front-before}
use Rattle.recount_monitor.proofs.front_at.Goals as goal

pub returns : goal.returns
returns c = front-before c.args.fronts.now c.args.j c.if-j-eq0.false
