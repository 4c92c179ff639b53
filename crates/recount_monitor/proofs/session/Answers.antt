use mathlib.Core.Path.{◌∙◌}
use Rattle.recount_queue.specs.Moves.{move_at}
use borrow.Author.Tests.{eq-eqb, ne_eqb}
use Rattle.recount_monitor.proofs.Room.{fronts_length, fronted_to}
use Rattle.recount_monitor.proofs.Turns.{no_session, fronts_left, line-left}
use borrow.Author.Rules.{rules}
use Rattle.recount_monitor.proofs.session.Goals as goal

pub returns-then-threshold-eq0 : goal.returns-then-threshold-eq0
returns-then-threshold-eq0 c = no_session c.args.threshold c.args.timeout (move_at c.args.records.log.now c.args.records.marks.now) c.args.fronts.now c.args.n (eq-eqb c.args.threshold 0 c.if-threshold-eq0.true)

pub line-requires : goal.line-requires
line-requires c = (search rules, rw (c.front_records.ensures, fronts_length) c.requires.1, rw c.front_records.ensures (fronted_to c.args.timeout (move_at c.args.records.log.now c.args.records.marks.now) c.args.fronts.now c.args.n c.requires.1))

pub returns : goal.returns
returns c = (c.line.ensures ∙ line-left c.args.threshold c.args.timeout (move_at c.args.records.log.now c.args.records.marks.now) c.args.fronts.now c.args.n _ c.front_records.ensures c.requires.1 (ne_eqb c.args.threshold 0 c.if-threshold-eq0.false), c.front_records.ensures ∙ fronts_left c.args.threshold c.args.timeout (move_at c.args.records.log.now c.args.records.marks.now) c.args.fronts.now c.args.n (ne_eqb c.args.threshold 0 c.if-threshold-eq0.false))
