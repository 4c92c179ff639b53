use Rattle.std.proofs.Common.{◌≡◌}
use Rattle.probe_queue.specs.Queue.{unmarked}
use Rattle.probe_queue.proofs.unmark_queued.Given as goal

abbrev pub invariant-loop-i : goal.invariant-loop-i
invariant-loop-i l = l.queue ≡ unmarked l.fn.queue l.ring l.sequence l.i
