use lib.ListN.{length}
use Rattle.directions.specs.Direction.{outcome}
use Rattle.directions.proofs.Steps.{way_short, way_part, part-fits}
use Rattle.directions.proofs.record_own.Goals as goal

pub returns-then-slice-size : goal.returns-then-slice-size
unfolding outcome
returns-then-slice-size c =
    let a = c.args in
    way_short a.own a.slice.now a.reverse a.value _ c.room_size-size.ensures c.if-slice-size.true

pub record_part-requires : goal.record_part-requires
record_part-requires c =
    let a = c.args in
    part-fits a.reverse _ _ (length a.slice.now) c.room_size-size.ensures c.start_of-start.ensures c.if-slice-size.false

pub returns : goal.returns
returns c =
    let a = c.args in
    way_part a.own a.slice.now a.reverse a.value _ _ _ _ c.room_size-size.ensures c.start_of-start.ensures c.if-slice-size.false c.record_part.ensures
