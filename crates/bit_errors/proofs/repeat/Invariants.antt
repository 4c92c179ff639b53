-- `bit_errors::repeat` The loop's invariant: the bytes written are those of the pattern repeated. Assumes nothing.
use mathlib.Core.Path.{◌≡◌}
use Prim.Native.Nat.{◌<◌, ◌%◌}
use lib.ListN.{length}
use Rattle.bit_errors.specs.Parts.{Repeats}
use Rattle.bit_errors.proofs.repeat.Given as goal

abbrev pub invariant-loop-at : goal.invariant-loop-at
invariant-loop-at l =
    (length l.room ≡ length l.initial.room) × (l.from < length l.pattern) × (l.from ≡ l.at % length l.pattern) × Repeats l.room l.pattern l.at
