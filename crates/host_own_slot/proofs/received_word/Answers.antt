use Rattle.host_own_slot.proofs.Laws.{received_as, absent_as}
use Rattle.host_own_slot.proofs.received_word.Goals as goal

pub returns-then-has : goal.returns-then-has
returns-then-has c = received_as _ _ _ _ (record { fits = c.both.type_inv }) c.both.ensures.0 c.has.ensures c.if-has.true

pub returns : goal.returns
returns c = absent_as _ _ _ c.has.ensures c.if-has.false
