use Prim.Native.Nat.{◌-◌}
use Rattle.recount_observed.specs.Observed.{observation_at}
use Rattle.recount_window.specs.Window.{points_from}
use Rattle.recount_direct.proofs.Laws.{from_jump, from_again, from_full, from_below, from_above}
use Rattle.recount_direct.proofs.from_anchor.Goals as goal

pub returns-then-transmit-sender : goal.returns-then-transmit-sender
returns-then-transmit-sender c =
    from_jump c.args.a c.args.c (points_from (observation_at c.args.records.log.now c.args.records.marks.now) c.args.start (c.args.n - c.args.start)) c.step-transmit.result c.step-sender.result c.step-received.result c.step-transmit.ensures c.step-sender.ensures c.step-received.ensures c.if-transmit-sender.true

pub returns-then-was_seen : goal.returns-then-was_seen
returns-then-was_seen c =
    from_again c.args.a c.args.c (points_from (observation_at c.args.records.log.now c.args.records.marks.now) c.args.start (c.args.n - c.args.start)) c.step-transmit.result c.step-sender.result c.step-received.result c.step-transmit.ensures c.step-sender.ensures c.step-received.ensures c.if-transmit-sender.false _ c.was_seen.ensures c.if-was_seen.true

pub returns-then-r-eq4096 : goal.returns-then-r-eq4096
returns-then-r-eq4096 c =
    from_full c.args.a c.args.c (points_from (observation_at c.args.records.log.now c.args.records.marks.now) c.args.start (c.args.n - c.args.start)) c.step-transmit.result c.step-sender.result c.step-received.result c.step-transmit.ensures c.step-sender.ensures c.step-received.ensures c.if-transmit-sender.false _ c.was_seen.ensures c.if-was_seen.false c.reach_of-r.result c.reach_of-r.ensures c.if-r-eq4096.true

pub returns-then-transmit-r : goal.returns-then-transmit-r
returns-then-transmit-r c =
    from_below c.args.a c.args.c (points_from (observation_at c.args.records.log.now c.args.records.marks.now) c.args.start (c.args.n - c.args.start)) c.step-transmit.result c.step-sender.result c.step-received.result c.step-transmit.ensures c.step-sender.ensures c.step-received.ensures c.if-transmit-sender.false _ c.was_seen.ensures c.if-was_seen.false c.reach_of-r.result c.reach_of-r.ensures c.if-r-eq4096.false c.if-transmit-r.true

pub returns : goal.returns
returns c =
    from_above c.args.a c.args.c (points_from (observation_at c.args.records.log.now c.args.records.marks.now) c.args.start (c.args.n - c.args.start)) c.step-transmit.result c.step-sender.result c.step-received.result c.step-transmit.ensures c.step-sender.ensures c.step-received.ensures c.if-transmit-sender.false _ c.was_seen.ensures c.if-was_seen.false c.reach_of-r.result c.reach_of-r.ensures c.if-r-eq4096.false c.if-transmit-r.false
