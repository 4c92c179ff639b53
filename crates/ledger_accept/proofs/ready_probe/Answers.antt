use Rattle.chains.specs.Hash.{number_hash}
use Rattle.key_ring.specs.Table.{hash_of}
use Rattle.probe_ring.specs.Rooms.{rooms}
use Rattle.ledger_accept.proofs.Steps.{ready_held, ready-new}
use Rattle.ledger_accept.proofs.ready_probe.Goals as goal

pub returns-then-slot-lt-CAPACITY : goal.returns-then-slot-lt-CAPACITY
returns-then-slot-lt-CAPACITY c =
    let secret = c.args.secret in
    let held = rooms c.args.probes.now c.args.links.now c.args.ring in
    (ready_held 4096 (hash_of secret) (number_hash secret) held c.args.slot c.args.reply c.if-slot-lt-CAPACITY.true, c.requires.2, c.if-slot-lt-CAPACITY.true)

pub returns : goal.returns
returns c =
    let secret = c.args.secret in
    let held = rooms c.args.probes.now c.args.links.now c.args.ring in
    let done = c.push.ensures in (
      ready-new 4096 (hash_of secret) (number_hash secret) held c.args.slot c.args.reply _ _ _
          c.if-slot-lt-CAPACITY.false c.packet_of-packet.ensures c.unanswered-probe.ensures done.0,
      done.1,
      done.2,
    )
