use mathlib.Core.Path.{◌≡◌, refl, sym, ◌∙◌}
use Prim.Native.Nat.{◌-◌}
use native.Mathlib.Omega.{arith}
use borrow.Author.Rules.{rules}
use Rattle.recount_queue.specs.Moves.{move_at, queued_at}
use Rattle.recount_queue.proofs.Loops.{to_here, to_next, to_none}
use Rattle.recount_queue.proofs.front_to.Goals as goal

pub loop-i-init : goal.loop-i-init
loop-i-init c = refl

pub returns-then-is_named : goal.returns-then-is_named
returns-then-is_named c = to_here (queued_at c.args.timeout (move_at c.args.records.log.now c.args.records.marks.now)) c.args.sequence c.loop-i.i c.args.n c.queued_at-queued.result (search rules) c.queued_at-queued.ensures (sym c.is_named.ensures ∙ c.if-is_named.true) ∙ sym c.loop-i.invariant

pub loop-i-preserved : goal.loop-i-preserved
loop-i-preserved c = c.loop-i.invariant ∙ to_next (queued_at c.args.timeout (move_at c.args.records.log.now c.args.records.marks.now)) c.args.sequence c.loop-i.i c.args.n c.queued_at-queued.result (search rules) c.queued_at-queued.ensures (sym c.is_named.ensures ∙ c.if-is_named.false)

pub returns : goal.returns
returns c =
    let e : c.loop-i.i ≡ c.args.n = omega (arith, c.loop-i-test.false, c.loop-i.auto.i-end c.requires.0) in
    to_none (queued_at c.args.timeout (move_at c.args.records.log.now c.args.records.marks.now)) c.args.sequence c.args.n ∙ sym (rw e at c.loop-i.invariant)
