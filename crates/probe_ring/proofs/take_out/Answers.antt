use mathlib.Core.Path.{refl}
use native.Mathlib.Omega.{arith}
use Rattle.probe_ring.specs.Rooms.{rooms}
use Rattle.probe_ring.proofs.Leaves.{taken_as}
use Rattle.probe_ring.proofs.take_out.Goals as goal

pub returns : goal.returns
returns c = (taken_as 4096 (rooms c.args.probes.now c.args.links.now c.args.ring) c.args.slot c.place-gone.result _ _ c.narrow-lift.result c.narrow-place.result c.mend_newest.new.links _ _ c.place-gone.ensures refl refl c.narrow-lift.ensures c.narrow-place.ensures c.mend_newest.ensures c.move_links.ensures c.move_rows.ensures, record { head_in = c.requires.2.head_in; len_in = omega (arith, c.requires.2.len_in) })
