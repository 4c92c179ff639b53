use Rattle.recount_monitor.proofs.marked_next.Goals as goal

pub returns-in-Sends : goal.returns-in-Sends
returns-in-Sends c = rw c.in-Sends.is
