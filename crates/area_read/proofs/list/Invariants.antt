-- `area_read::list` The loop's invariant: the items from `at` on are those behind the first `index`, whose words stand in the
-- room. Assumes nothing.
use mathlib.Core.Path.{◌≡◌}
use lib.ListN.{length, drop}
use lib.Seq.{paste}
use Rattle.area_items.specs.Items.{rest_of, area}
use Rattle.area_read.specs.Read.{items_of, words_of}
use Rattle.area_read.proofs.list.Given as goal

abbrev pub invariant-loop-index : goal.invariant-loop-index
invariant-loop-index l =
    (length l.room ≡ length l.initial.room) × (drop l.index (items_of (area l.bytes)) ≡ items_of (rest_of l.bytes l.at)) × (l.room ≡ paste l.initial.room 0 (words_of (items_of (area l.bytes))) l.index)
