use mathlib.Core.Path.{refl, sym, ◌∙◌}
use Prim.Native.Nat.{◌-◌}
use native.Mathlib.Omega.{arith}
use borrow.Author.Rules.{rules}
use Rattle.recount_queue.specs.Moves.{move_at, queued_at}
use Rattle.recount_monitor.proofs.Turns.{lost-turn, lost-none}
use Rattle.recount_monitor.proofs.lost.Goals as goal

pub loop-i-init : goal.loop-i-init
loop-i-init c = refl

pub loop-i-preserved : goal.loop-i-preserved
loop-i-preserved c = c.loop-i.invariant ∙ lost-turn c.args.threshold (queued_at c.args.timeout (move_at c.args.records.log.now c.args.records.marks.now)) c.loop-i.i c.args.to c.queued_at-queued.result c.loop-i.left c.lose_if-left.result (search rules) c.queued_at-queued.ensures c.lose_if-left.ensures

pub returns : goal.returns
returns c = sym (c.loop-i.invariant ∙ lost-none c.args.threshold (queued_at c.args.timeout (move_at c.args.records.log.now c.args.records.marks.now)) c.loop-i.i c.args.to c.loop-i.left (omega (arith, c.loop-i-test.false)))
