use Rattle.host_own_slot.proofs.Laws.{record_as}
use Rattle.host_own_slot.proofs.record_words.Goals as goal

pub returns : goal.returns
returns c =
    record_as _ _ _ _ _ c.record_flags-kept.ensures.0 c.wires-estimates.ensures.0
    c.received_word.ensures (record { fits = c.both.type_inv }) c.both.ensures.0
