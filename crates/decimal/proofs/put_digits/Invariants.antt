-- `decimal::put_digits` The loop's invariant: the number's digits are those of the rest and those already written behind the place.
-- The measure is the rest. Assumes nothing.
use mathlib.Core.Path.{◌≡◌}
use mathlib.Core.List.{List, ◌++◌}
use Prim.Native.Nat.{ℕ, ◌+◌, ◌<◌}
use lib.ListN.{length, drop}
use Rattle.decimal.specs.Decimal.{decimal}
use Rattle.decimal.specs.Writing.{over}
use Rattle.decimal.proofs.put_digits.Given as goal

-- the digits of n behind those of a rest
abbrev pub behind : ℕ → ℕ → List ℕ
behind n rest = drop (length (decimal rest)) (decimal n)

abbrev pub invariant-loop-rest : goal.invariant-loop-rest
invariant-loop-rest l =
    (decimal l.n ≡ decimal l.rest ++ behind l.n l.rest) × (l.bytes ≡ over l.initial.bytes (l.place + 1) (behind l.n l.rest)) × (l.place + 1 ≡ l.at + length (decimal l.rest)) × (l.place < length l.initial.bytes) × (length l.bytes ≡ length l.initial.bytes)

abbrev pub decreases-loop-rest : goal.decreases-loop-rest
decreases-loop-rest l = l.rest
