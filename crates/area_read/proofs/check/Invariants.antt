-- `area_read::check` The loop's invariant: the answer is that of the bytes from `at` on, with `count` items before. Assumes nothing.
use mathlib.Core.Path.{◌≡◌}
use Prim.Native.Nat.{◌-◌, ◌≤◌}
use lib.ListN.{length}
use Rattle.area_items.specs.Items.{rest_of, area}
use Rattle.area_read.specs.Read.{checked_of}
use Rattle.area_read.proofs.Laws.{later}
use Rattle.area_read.proofs.check.Given as goal

abbrev pub invariant-loop-at : goal.invariant-loop-at
invariant-loop-at l = (l.at ≤ length l.bytes) × (l.count ≤ l.at) × (checked_of (area l.bytes) ≡ later l.count (checked_of (rest_of l.bytes l.at)))

abbrev pub decreases-loop-at : goal.decreases-loop-at
decreases-loop-at l = length l.bytes - l.at
