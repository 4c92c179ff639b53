-- `decimal_word::value_within` The loop's invariant: the number so far is within the bound, and the digits that are left go on from it.
-- Assumes nothing.
use mathlib.Core.Path.{◌≡◌}
use mathlib.Core.Bool.{true}
use Prim.Native.Nat.{◌≤◌}
use lib.ListN.{drop}
use Rattle.decimal.specs.Decimal.{value_of, value_after}
use Rattle.decimal_word.specs.Words.{all_digits}
use Rattle.decimal_word.proofs.value_within.Given as goal

abbrev pub invariant-loop-byte : goal.invariant-loop-byte
invariant-loop-byte l =
    (l.value ≤ l.most) × (all_digits (drop l.byte-index l.word) ≡ true) × (value_of l.word ≡ value_after l.value (drop l.byte-index l.word))
