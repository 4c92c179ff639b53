use mathlib.Core.Path.{◌≡◌}
use Prim.Native.Nat.{◌+◌, ◌-◌}
use Rattle.directions.specs.Directions.{part_size}
use Rattle.directions.proofs.Steps.{length_of, part_left, put_untouched}
use Rattle.directions.proofs.record_part.Goals as goal

pub returns : goal.returns
returns c =
    let a = c.args in
    let k : (a.start + c.room_size-size.result) - a.start ≡ part_size = length_of a.start c.room_size-size.ensures in
    (part_left a.direction a.slice.now a.start a.value _ _ _ k c.record.ensures, put_untouched a.start _ a.slice.now c.record.new.room k c.requires c.record.auto.room)
