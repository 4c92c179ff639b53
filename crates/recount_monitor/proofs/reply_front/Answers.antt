use native.Mathlib.Omega.{arith}
use Rattle.recount_queue.specs.Moves.{move_at}
use Rattle.recount_monitor.proofs.Room.{front-within}
use Rattle.recount_monitor.proofs.Turns.{reply_moves, reply_rests}
use Rattle.recount_monitor.proofs.reply_front.Goals as goal

pub front_to-requires : goal.front_to-requires
front_to-requires c = (omega (arith, c.front_at-front.ensures, front-within 0 c.args.timeout (move_at c.args.records.log.now c.args.records.marks.now) c.args.fronts.now c.args.n c.requires.2 c.args.n (omega arith)), c.requires.0)

pub returns-then-on-marked : goal.returns-then-on-marked
returns-then-on-marked c = reply_moves c.args.timeout (move_at c.args.records.log.now c.args.records.marks.now) c.args.fronts.now c.args.sequence c.args.n c.front_to.result c.front_at-front.result c.transmits-on.result c.is_marked-marked.result c.transmits-on.ensures c.is_marked-marked.ensures c.if-on-marked.true c.front_at-front.ensures c.front_to.ensures

pub returns : goal.returns
returns c = reply_rests c.args.timeout (move_at c.args.records.log.now c.args.records.marks.now) c.args.fronts.now c.args.sequence c.args.n c.front_at-front.result c.transmits-on.result c.is_marked-marked.result c.transmits-on.ensures c.is_marked-marked.ensures c.if-on-marked.false c.front_at-front.ensures
