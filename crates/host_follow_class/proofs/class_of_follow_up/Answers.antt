use mir.Syntax.{w32}
use mir.ValLaws.{to_z-of_z}
use Rattle.chains.specs.Hash.{number_hash}
use Rattle.key_ring.specs.Table.{hash_of}
use Rattle.host_follow_class.proofs.Steps.{found_as}
use Rattle.host_follow_class.proofs.class_of_follow_up.Goals as goal

pub returns : goal.returns
returns c =
    found_as _ (hash_of c.args.secret) (number_hash c.args.secret) c.args.ring c.args.keys.now c.args.slots.now c.args.links.now c.args.own c.args.offset _ c.args.telemetry _ _
    c.holder-at.ensures c.class_at.ensures (to_z-of_z w32 c.args.offset c.ranges.offset)
