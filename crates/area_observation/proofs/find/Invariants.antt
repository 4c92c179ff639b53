-- `area_observation::find` The loop's invariant: the walk from `at` on, with what was found, comes to what the whole walk
-- does, and what was found lies within the bytes. Assumes nothing.
use mathlib.Core.Path.{◌≡◌}
use Prim.Native.Nat.{◌≤◌, ◌-◌}
use lib.ListN.{length}
use Rattle.area_items.specs.Items.{rest_of, area}
use Rattle.area_observation.specs.Walk.{fresh, walked, Safe}
use Rattle.area_observation.proofs.find.Given as goal

abbrev pub invariant-loop-at : goal.invariant-loop-at
invariant-loop-at l = (l.at ≤ length l.bytes) × (walked fresh (area l.bytes) ≡ walked l.found (rest_of l.bytes l.at)) × Safe l.bytes l.found

abbrev pub decreases-loop-at : goal.decreases-loop-at
decreases-loop-at l = length l.bytes - l.at
