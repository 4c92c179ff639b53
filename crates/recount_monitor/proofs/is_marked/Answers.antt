use mathlib.Core.Path.{◌≡◌}
use Prim.Native.Nat.{◌-◌}
use native.Mathlib.Omega.{arith}
use borrow.Author.Rules.{rules}
use Rattle.recount_queue.specs.Moves.{move_at}
use Rattle.recount_monitor.proofs.Turns.{marked-starts, marked_turn, front_next-within}
use Rattle.recount_monitor.proofs.is_marked.Goals as goal

pub loop-j-init : goal.loop-j-init
loop-j-init c = marked-starts _ _ _ _

pub any_named-passed-requires : goal.any_named-passed-requires
any_named-passed-requires c = omega (arith, c.front_at-to.ensures, front_next-within c.args.timeout (move_at c.args.records.log.now c.args.records.marks.now) c.args.fronts.now c.args.n c.loop-j.j c.requires.2 (search rules))

pub loop-j-preserved : goal.loop-j-preserved
loop-j-preserved c = marked_turn c.args.timeout (move_at c.args.records.log.now c.args.records.marks.now) c.args.fronts.now c.args.sequence c.loop-j.j c.move_at-step.result c.front_at-from.result c.front_at-to.result c.any_named-passed.result c.loop-j.found c.marked_next-found.result c.move_at-step.ensures c.front_at-from.ensures c.front_at-to.ensures c.any_named-passed.ensures c.marked_next-found.ensures c.loop-j.invariant
