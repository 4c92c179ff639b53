-- A record is stored only where it is of the sequence: elsewhere unmarking leaves it as it is.
use Rattle.std.proofs.Common.{◌≡◌, ◌∙◌, ℕ, ◌+◌, List, arith, sym, ap, get_or, set, add-one}
use Rattle.probe_queue.specs.declared.QueuedProbe.{QueuedProbe}
use Rattle.probe_queue.specs.declared.QueueRing.{QueueRing}
use Rattle.probe_queue.specs.Queue.{nil, place, unmark, unmarked}
use Rattle.probe_queue.proofs.Stored.{stored}
use Rattle.probe_queue.proofs.unmark_queued.Goals as goal

one_more : (q room : List QueuedProbe) (ring : QueueRing) (s i n : ℕ) (p : QueuedProbe) → room ≡ unmarked q ring s i → n ≡ place ring i → p ≡ get_or room n nil → set room n (unmark s p) ≡ unmarked q ring s (i + 1)
one_more q room ring s i n p er en ep =
    ap (λ (x : QueuedProbe). set room n (unmark s x)) ep
    ∙ ap (λ (m : ℕ). set room m (unmark s (get_or room m nil))) en
    ∙ ap (λ (r : List QueuedProbe). set r (place ring i) (unmark s (get_or r (place ring i) nil))) er
    ∙ sym (ap (unmarked q ring s) (add-one i))

pub loop-i-preserved : goal.loop-i-preserved
loop-i-preserved c =
    c.push.ensures
    ∙ stored c.loop-i.queue c.args.sequence c.place_of-at.result c.front-probe.result c.unmarked-changed.result c.place_if-to.result (omega arith) c.front-probe.ensures c.unmarked-changed.ensures c.place_if-to.ensures
    ∙ one_more c.args.queue.now c.loop-i.queue c.args.ring c.args.sequence c.loop-i.i c.place_of-at.result c.front-probe.result c.loop-i.invariant c.place_of-at.ensures c.front-probe.ensures
