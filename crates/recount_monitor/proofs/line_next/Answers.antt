use mathlib.Core.Bool.{Bool}
use mathlib.Core.Path.{refl, ap, ◌∙◌}
use native.Mathlib.Omega.{arith}
use Rattle.recount_queue.specs.Moves.{move_at}
use Rattle.recount_queue.specs.declared.Move.TheVariants.{Halts, Rests}
use Rattle.recount_monitor.specs.Session.{heard, halted}
use Rattle.recount_monitor.proofs.Turns.{line-by, line-lost, line_kept}
use Rattle.recount_monitor.proofs.line_next.Goals as goal

pub overflow_add-n : goal.overflow_add-n
overflow_add-n c = omega (arith, c.requires.2)

pub returns-then-transmits : goal.returns-then-transmits
returns-then-transmits c = line-by c.args.threshold c.args.timeout (move_at c.args.records.log.now c.args.records.marks.now) c.args.fronts.now c.args.n c.move_at-step.result _ c.args.session c.lost.result c.move_at-step.ensures c.in-Advances.is (line-lost c.args.threshold c.args.timeout (move_at c.args.records.log.now c.args.records.marks.now) c.args.fronts.now c.args.n c.args.session c.lost.result c.transmits.result c.front_at-from.result c.front_at-to.result c.transmits.ensures c.if-transmits.true c.front_at-from.ensures c.front_at-to.ensures c.lost.ensures)

pub returns-in-Sends : goal.returns-in-Sends
returns-in-Sends c = line-by c.args.threshold c.args.timeout (move_at c.args.records.log.now c.args.records.marks.now) c.args.fronts.now c.args.n c.move_at-step.result _ c.args.session c.args.session c.move_at-step.ensures c.in-Sends.is (refl)

pub returns-in-Hears : goal.returns-in-Hears
returns-in-Hears c = line-by c.args.threshold c.args.timeout (move_at c.args.records.log.now c.args.records.marks.now) c.args.fronts.now c.args.n c.move_at-step.result _ c.args.session c.heard.result c.move_at-step.ensures c.in-Hears.is (c.heard.ensures ∙ ap (λ (o : Bool). heard o c.args.session) c.transmits-on.ensures)

pub returns-else-transmits : goal.returns-else-transmits
returns-else-transmits c = line-by c.args.threshold c.args.timeout (move_at c.args.records.log.now c.args.records.marks.now) c.args.fronts.now c.args.n c.move_at-step.result _ c.args.session c.args.session c.move_at-step.ensures c.in-Advances.is (line_kept c.args.threshold c.args.timeout (move_at c.args.records.log.now c.args.records.marks.now) c.args.fronts.now c.args.n c.args.session c.transmits.result c.transmits.ensures c.if-transmits.false)

pub returns-in-Halts : goal.returns-in-Halts
returns-in-Halts c = line-by c.args.threshold c.args.timeout (move_at c.args.records.log.now c.args.records.marks.now) c.args.fronts.now c.args.n c.move_at-step.result Halts c.args.session c.halted.result c.move_at-step.ensures c.in-Halts.is c.halted.ensures

pub returns-in-Rests : goal.returns-in-Rests
returns-in-Rests c = line-by c.args.threshold c.args.timeout (move_at c.args.records.log.now c.args.records.marks.now) c.args.fronts.now c.args.n c.move_at-step.result Rests c.args.session c.args.session c.move_at-step.ensures c.in-Rests.is (refl)
