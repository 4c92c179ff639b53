use mathlib.Core.Path.{refl, sym, ◌∙◌}
use Prim.Native.Nat.{◌-◌}
use native.Mathlib.Omega.{arith}
use borrow.Author.Rules.{rules}
use Rattle.recount_queue.specs.Moves.{move_at, queued_at}
use Rattle.recount_queue.proofs.Loops.{any_here, any_next, any_none}
use Rattle.recount_queue.proofs.any_named.Goals as goal

pub loop-i-init : goal.loop-i-init
loop-i-init c = refl

pub returns-then-is_named : goal.returns-then-is_named
returns-then-is_named c = any_here (queued_at c.args.timeout (move_at c.args.records.log.now c.args.records.marks.now)) c.args.sequence c.loop-i.i c.args.to c.queued_at-queued.result (search rules) c.queued_at-queued.ensures (sym c.is_named.ensures ∙ c.if-is_named.true) ∙ sym c.loop-i.invariant

pub loop-i-preserved : goal.loop-i-preserved
loop-i-preserved c = c.loop-i.invariant ∙ any_next (queued_at c.args.timeout (move_at c.args.records.log.now c.args.records.marks.now)) c.args.sequence c.loop-i.i c.args.to c.queued_at-queued.result (search rules) c.queued_at-queued.ensures (sym c.is_named.ensures ∙ c.if-is_named.false)

pub returns : goal.returns
returns c =
    any_none (queued_at c.args.timeout (move_at c.args.records.log.now c.args.records.marks.now)) c.args.sequence c.loop-i.i c.args.to (omega (arith, c.loop-i-test.false)) ∙ sym c.loop-i.invariant
