-- `decimal_word::all_digits` The loop's invariant: what is left decides. Assumes nothing.
use mathlib.Core.Path.{◌≡◌}
use lib.ListN.{drop}
use Rattle.decimal_word.specs.Words.{all_digits}
use Rattle.decimal_word.proofs.all_digits.Given as goal

abbrev pub invariant-loop-byte : goal.invariant-loop-byte
invariant-loop-byte l = all_digits l.word ≡ all_digits (drop l.byte-index l.word)
