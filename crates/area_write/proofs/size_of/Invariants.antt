use mathlib.Core.Path.{◌≡◌}
use Prim.Native.Nat.{◌≤◌, ◌-◌, ◌+◌}
use lib.ListN.{drop}
use Rattle.area_write.specs.Write.{needed}
use Rattle.area_write.proofs.size_of.Given as goal

abbrev pub invariant-loop-word : goal.invariant-loop-word
invariant-loop-word l = (l.left ≤ l.most) × (l.most - l.left + needed (drop l.word-index l.items) ≡ needed l.items)
