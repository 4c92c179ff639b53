use Rattle.std.proofs.Common.{◌≡◌}
use Rattle.probe_queue.specs.Queue.{popped}
use Rattle.probe_queue.proofs.pop.Given as goal

abbrev pub invariant-loop-i : goal.invariant-loop-i
invariant-loop-i l = l.queue ≡ popped l.fn.queue l.ring l.rest l.i
