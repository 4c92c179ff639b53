use mathlib.Core.Path.{refl}
use Rattle.correlation.proofs.Joins.{slot_read}
use Rattle.correlation.proofs.Slot.of_words.Goals as goal

pub returns : goal.returns
returns c = slot_read _ _ _ _ _ refl c.flag_at.ensures c.flag_at-2.ensures c.unique_of.ensures
