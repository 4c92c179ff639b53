-- `bit_errors::after_bytes` The loop's invariant: the tally is that of the bytes passed. Assumes nothing.
use mathlib.Core.Path.{◌≡◌}
use Rattle.bit_errors.specs.Parts.{differing}
use Rattle.bit_errors.proofs.Parts.{up_to}
use Rattle.bit_errors.proofs.after_bytes.Given as goal

abbrev pub invariant-loop-at : goal.invariant-loop-at
invariant-loop-at l = l.u ≡ up_to (differing l.padding l.pattern) l.initial.u l.at
