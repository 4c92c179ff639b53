use mathlib.Core.Path.{◌≡◌, refl, sym, ◌∙◌}
use Prim.Native.Nat.{◌-◌}
use native.Mathlib.Omega.{arith}
use borrow.Author.Rules.{rules}
use Rattle.recount_queue.specs.Moves.{move_at, queued_at}
use borrow.Author.Tests.{not-true, not-false}
use Rattle.recount_queue.proofs.Loops.{by_here, by_next, by-none}
use Rattle.recount_queue.proofs.front_by.Goals as goal

pub loop-i-init : goal.loop-i-init
loop-i-init c = refl

pub returns-then-not-goes : goal.returns-then-not-goes
returns-then-not-goes c = by_here c.args.timeout (queued_at c.args.timeout (move_at c.args.records.log.now c.args.records.marks.now)) c.args.time c.loop-i.i c.args.n c.queued_at-queued.result (search rules) c.queued_at-queued.ensures (sym c.goes.ensures ∙ c.if-not-goes.true) ∙ sym c.loop-i.invariant

pub loop-i-preserved : goal.loop-i-preserved
loop-i-preserved c = c.loop-i.invariant ∙ by_next c.args.timeout (queued_at c.args.timeout (move_at c.args.records.log.now c.args.records.marks.now)) c.args.time c.loop-i.i c.args.n c.queued_at-queued.result (search rules) c.queued_at-queued.ensures (sym c.goes.ensures ∙ c.if-not-goes.false)

pub returns : goal.returns
returns c =
    let e : c.loop-i.i ≡ c.args.n = omega (arith, c.loop-i-test.false, c.loop-i.auto.i-end c.requires.0) in
    by-none c.args.timeout (queued_at c.args.timeout (move_at c.args.records.log.now c.args.records.marks.now)) c.args.time c.args.n ∙ sym (rw e at c.loop-i.invariant)
