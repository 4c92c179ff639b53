use mathlib.Core.Path.{◌≡◌, refl}
use native.Mathlib.Omega.{arith}
use Rattle.recount_queue.specs.Moves.{move_at}
use Prim.Native.Nat.{◌-◌}
use borrow.Author.Rules.{rules}
use Rattle.recount_monitor.proofs.Room.{fronts_starts, fronted_to, fronts_turn}
use Rattle.recount_monitor.proofs.front_records.Goals as goal

pub loop-i-init : goal.loop-i-init
loop-i-init c = (fronts_starts _ _ _, refl)

pub front_next-front-requires : goal.front_next-front-requires
front_next-front-requires c = (search rules, search rules, search rules, rw c.loop-i.invariant.0 (fronted_to c.args.timeout (move_at c.args.records.log.now c.args.records.marks.now) c.args.fronts.now c.loop-i.i (search rules)))

pub loop-i-preserved : goal.loop-i-preserved
loop-i-preserved c = (fronts_turn _ _ _ _ _ _ c.loop-i.invariant.0 c.front_next-front.ensures, search rules)
