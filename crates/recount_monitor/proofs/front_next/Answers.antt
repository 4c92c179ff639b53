use Prim.Native.Nat.{ℕ, ◌+◌}
use mathlib.Core.Path.{ap, ◌∙◌}
use native.Mathlib.Omega.{arith}
use Rattle.recount_queue.specs.Moves.{move_at, queued_at}
use Rattle.recount_queue.specs.declared.Move.TheVariants.{Halts, Rests}
use Rattle.recount_queue.specs.Queue.{front_by}
use Rattle.recount_monitor.proofs.Room.{front-within}
use Rattle.recount_monitor.proofs.Turns.{one_more, next-by}
use Rattle.recount_monitor.proofs.front_next.Goals as goal

pub front_by-requires : goal.front_by-requires
front_by-requires c = (omega (arith, c.front_at-front.ensures, front-within 0 c.args.timeout (move_at c.args.records.log.now c.args.records.marks.now) c.args.fronts.now c.args.n c.requires.3 c.args.n (omega arith)), omega (arith, c.requires.0))

pub overflow_add-result : goal.overflow_add-result
overflow_add-result c = omega (arith, c.requires.2)

pub returns-in-Sends : goal.returns-in-Sends
returns-in-Sends c = next-by c.args.timeout (move_at c.args.records.log.now c.args.records.marks.now) c.args.fronts.now c.args.n c.move_at-step.result _ c.front_at-front.result c.move_at-step.ensures c.in-Sends.is c.front_at-front.ensures

pub returns-in-Hears : goal.returns-in-Hears
returns-in-Hears c = next-by c.args.timeout (move_at c.args.records.log.now c.args.records.marks.now) c.args.fronts.now c.args.n c.move_at-step.result _ c.reply_front.result c.move_at-step.ensures c.in-Hears.is c.reply_front.ensures

pub returns-in-Halts : goal.returns-in-Halts
returns-in-Halts c = next-by c.args.timeout (move_at c.args.records.log.now c.args.records.marks.now) c.args.fronts.now c.args.n c.move_at-step.result Halts (c.args.n + 1) c.move_at-step.ensures c.in-Halts.is (one_more c.args.n)

pub returns-in-Rests : goal.returns-in-Rests
returns-in-Rests c = next-by c.args.timeout (move_at c.args.records.log.now c.args.records.marks.now) c.args.fronts.now c.args.n c.move_at-step.result Rests c.front_at-front.result c.move_at-step.ensures c.in-Rests.is c.front_at-front.ensures

pub returns-in-Advances : goal.returns-in-Advances
returns-in-Advances c = next-by c.args.timeout (move_at c.args.records.log.now c.args.records.marks.now) c.args.fronts.now c.args.n c.move_at-step.result _ c.front_by.result c.move_at-step.ensures c.in-Advances.is (c.front_by.ensures ∙ ap (λ (f : ℕ). front_by c.args.timeout (queued_at c.args.timeout (move_at c.args.records.log.now c.args.records.marks.now)) c.in-Advances.time f c.args.n) c.front_at-front.ensures)
