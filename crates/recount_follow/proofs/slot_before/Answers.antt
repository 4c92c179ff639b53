use Rattle.std.proofs.Common.{rules}
use Rattle.recount_follow.proofs.Laws.{slot_start, slot_turn, next-most}
use Rattle.recount_follow.proofs.slot_before.Goals as goal

pub loop-j-init : goal.loop-j-init
loop-j-init c = (slot_start _ _ _ _, search rules)

pub loop-j-preserved : goal.loop-j-preserved
loop-j-preserved c =
    let l = c.loop-j in (
      slot_turn _ _ _ _ _ _ _ _ c.observation_at.ensures c.slot_next-b.ensures l.invariant.0,
      next-most c.observation_at.result c.args.copies c.args.number l.j l.b c.slot_next-b.result c.slot_next-b.ensures l.invariant.1,
    )
