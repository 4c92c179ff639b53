use Rattle.offset_set.proofs.Laws.{added_room, added_full}
use Rattle.offset_set.proofs.add.Goals as goal

pub returns-then-count-lt-CAPACITY : goal.returns-then-count-lt-CAPACITY
returns-then-count-lt-CAPACITY c = added_room _ _ _ _ _ _ c.if-count-lt-CAPACITY.true c.number_hash-hash.ensures.0 c.link.ensures

pub returns : goal.returns
returns c = added_full _ _ _ _ c.if-count-lt-CAPACITY.false
