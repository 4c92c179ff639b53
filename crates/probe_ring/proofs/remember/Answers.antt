use Rattle.chains.specs.Hash.{number_hash}
use Rattle.probe_ring.specs.Row.{unanswered}
use Rattle.probe_ring.specs.Rooms.{rooms}
use Rattle.probe_ring.proofs.Leaves.{found_below, remembered-held, remembered-new}
use borrow.Author.Rules.{rules}
use Rattle.probe_ring.proofs.remember.Goals as goal

pub take_out-rest-requires : goal.take_out-rest-requires
take_out-rest-requires c = (search rules, search rules, c.requires.2, search rules, found_below 4096 (number_hash c.args.secret) (rooms c.args.probes.now c.args.links.now c.args.ring) c.requires.2 _ _ c.find-slot.ensures c.if-slot-lt-CAPACITY.true)

pub returns-then-slot-lt-CAPACITY : goal.returns-then-slot-lt-CAPACITY
returns-then-slot-lt-CAPACITY c = (remembered-held 4096 (number_hash c.args.secret) (rooms c.args.probes.now c.args.links.now c.args.ring) c.requires.2 (unanswered c.args.sequence c.args.packet c.args.ordinal c.args.train) _ c.find-slot.ensures _ _ c.if-slot-lt-CAPACITY.true c.take_out-rest.ensures.0 (rw c.unanswered-probe.ensures at c.push.ensures.0), c.push.ensures.1, c.push.ensures.2)

pub returns : goal.returns
returns c = (remembered-new 4096 (number_hash c.args.secret) (rooms c.args.probes.now c.args.links.now c.args.ring) c.requires.2 (unanswered c.args.sequence c.args.packet c.args.ordinal c.args.train) _ c.find-slot.ensures _ c.if-slot-lt-CAPACITY.false (rw c.unanswered-probe.ensures at c.push-2.ensures.0), c.push-2.ensures.1, c.push-2.ensures.2)
