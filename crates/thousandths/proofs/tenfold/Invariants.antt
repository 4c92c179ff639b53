use mathlib.Core.Path.{◌≡◌}
use Prim.Native.Nat.{◌+◌, ◌-◌, ◌*◌, ◌<◌, ◌≤◌}
use Rattle.thousandths.proofs.tenfold.Given as goal

abbrev pub invariant-loop-turn : goal.invariant-loop-turn
invariant-loop-turn l = (l.left ≡ l.divisor - l.rest) × (l.sum < l.divisor) × (l.whole ≤ l._turn) × (l._turn * l.rest ≡ l.whole * l.divisor + l.sum)
