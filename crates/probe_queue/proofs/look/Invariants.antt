use Rattle.std.proofs.Common.{◌≡◌, ◌<◌, ℕ, true}
use Rattle.probe_queue.specs.Queue.{at, passes}
use Rattle.probe_queue.proofs.look.Given as goal

-- each record passed so far is one that the rule passes
abbrev pub invariant-loop-i : goal.invariant-loop-i
invariant-loop-i l = (k : ℕ) → k < l.i → passes l.rule (at l.queue l.ring k) ≡ true
