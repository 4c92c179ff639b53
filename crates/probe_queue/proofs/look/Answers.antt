-- Each record passed so far is one that the rule passes, and the look ends at the first that it does not, or at the queue's end.
use Rattle.std.proofs.Common.{◌∙◌, ℕ, sym, ap, get_or, arith}
use Rattle.probe_queue.specs.Queue.{nil, at, passes}
use Rattle.probe_queue.proofs.Leading.{leads}
use Rattle.probe_queue.proofs.look.Goals as goal

pub returns-then-not-goes_on : goal.returns-then-not-goes_on
returns-then-not-goes_on c =
    leads (passes c.args.rule) c.args.ring.len (at c.args.queue.now c.args.ring) c.loop-i.i (omega arith) c.loop-i.invariant
    (λ _. sym (ap (passes c.args.rule) (c.front-probe.ensures ∙ ap (λ (n : ℕ). get_or c.args.queue.now n nil) c.place_of-at.ensures)) ∙ sym c.goes_on.ensures ∙ c.if-not-goes_on.true)

pub returns : goal.returns
returns c =
    leads (passes c.args.rule) c.args.ring.len (at c.args.queue.now c.args.ring) c.args.ring.len (omega arith) (λ k h. c.loop-i.invariant k (omega (arith, h)))
    (λ l. absurd (omega arith))
