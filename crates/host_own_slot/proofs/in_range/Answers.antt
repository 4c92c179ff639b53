use Rattle.host_own_slot.proofs.Laws.{range-as}
use Rattle.host_own_slot.proofs.in_range.Goals as goal

pub returns : goal.returns
returns c =
    range-as c.args.words.now _ _ _ _ _ _ _ _ _
    c.time_fits.ensures c.time_by-t4.ensures c.has-timed.ensures c.both.ensures.0
    c.reference_within.ensures c.cast_signed-reference.ensures (record { sfits = c.cast_signed-reference.type_inv }) c.both-2.ensures.0
    c.offset_within.ensures c.cast_signed-offset.ensures (record { sfits = c.cast_signed-offset.type_inv })
