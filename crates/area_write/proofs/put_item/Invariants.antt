use mathlib.Core.Path.{◌≡◌}
use lib.ListN.{length}
use lib.Seq.{paste}
use Rattle.area_write.proofs.Laws.{wire}
use Rattle.area_write.proofs.put_item.Given as goal

abbrev pub invariant-loop-index : goal.invariant-loop-index
invariant-loop-index l = (length l.room ≡ length l.initial.room) × (l.room ≡ paste l.initial.room l.at (wire l.values l.word) l.index)
