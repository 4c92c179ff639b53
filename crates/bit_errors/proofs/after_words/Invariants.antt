-- `bit_errors::after_words` The loop's invariant: the tally is that of the words passed. Assumes nothing.
use mathlib.Core.Path.{◌≡◌}
use Prim.Native.Nat.{◌≤◌, ◌-◌, ◌%◌}
use Rattle.bit_errors.specs.Parts.{differing}
use Rattle.bit_errors.proofs.Parts.{up_to}
use Rattle.bit_errors.proofs.after_words.Given as goal

abbrev pub invariant-loop-at : goal.invariant-loop-at
invariant-loop-at l = (l.at ≤ l.end) × (l.at % 8 ≡ 0) × (l.u ≡ up_to (differing l.padding l.pattern) l.initial.u l.at)

abbrev pub decreases-loop-at : goal.decreases-loop-at
decreases-loop-at l = l.end - l.at
