use mathlib.Core.Path.{◌≡◌}
use Prim.Native.Nat.{◌+◌}
use lib.ListN.{length, drop}
use lib.Seq.{paste}
use Rattle.std.specs.Prelude.{Ok}
use Rattle.area_write.specs.Write.{first_bad, needed, row_of}
use Rattle.area_write.proofs.put_items.Given as goal

abbrev pub invariant-loop-word : goal.invariant-loop-word
invariant-loop-word l =
    (l.at + needed (drop l.word-index l.items) ≡ needed l.items) × (first_bad l.values (drop l.word-index l.items) ≡ Ok tt)
    × (drop l.at (row_of l.values l.items) ≡ row_of l.values (drop l.word-index l.items)) × (length l.room ≡ length l.initial.room) × (l.room ≡ paste l.initial.room 0 (row_of l.values l.items) l.at)
