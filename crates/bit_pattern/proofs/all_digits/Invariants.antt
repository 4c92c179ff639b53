-- `bit_pattern::all_digits` The loop's invariant: all passed are digits. Assumes nothing.
use mathlib.Core.Path.{◌≡◌}
use lib.ListN.{drop}
use Rattle.bit_pattern.specs.Pattern.{all_digits}
use Rattle.bit_pattern.proofs.all_digits.Given as goal

abbrev pub invariant-loop-byte : goal.invariant-loop-byte
invariant-loop-byte l = all_digits l.text ≡ all_digits (drop l.byte-index l.text)
