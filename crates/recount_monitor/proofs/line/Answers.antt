use mathlib.Core.Path.{◌≡◌}
use native.Mathlib.Omega.{arith}
use Rattle.recount_queue.specs.Moves.{move_at}
use Prim.Native.Nat.{◌-◌}
use borrow.Author.Rules.{rules}
use Rattle.recount_monitor.proofs.Turns.{line-starts, line-turn, front_next-within}
use Rattle.recount_monitor.proofs.line.Goals as goal

pub loop-j-init : goal.loop-j-init
loop-j-init c = line-starts _ _ _ _

pub line_next-session-requires : goal.line_next-session-requires
line_next-session-requires c = (search rules, search rules, search rules, omega (arith, front_next-within c.args.timeout (move_at c.args.records.log.now c.args.records.marks.now) c.args.fronts.now c.args.n c.loop-j.j c.requires.2 (search rules)))

pub loop-j-preserved : goal.loop-j-preserved
loop-j-preserved c = line-turn c.args.threshold c.args.timeout (move_at c.args.records.log.now c.args.records.marks.now) c.args.fronts.now c.loop-j.j c.loop-j.session c.line_next-session.result c.line_next-session.ensures c.loop-j.invariant
