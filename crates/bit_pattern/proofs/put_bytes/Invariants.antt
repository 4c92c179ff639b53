-- `bit_pattern::put_bytes` The loop's invariant: the bytes before `at` are written, the rest of the room is as it was. Assumes nothing.
use mathlib.Core.Path.{◌≡◌}
use lib.ListN.{length}
use lib.Seq.{paste}
use Rattle.bit_pattern.specs.Pattern.{bytes_of}
use Rattle.bit_pattern.proofs.put_bytes.Given as goal

abbrev pub invariant-loop-at : goal.invariant-loop-at
invariant-loop-at l = (length l.room ≡ length l.initial.room) × (l.room ≡ paste l.initial.room 0 (bytes_of l.digits) l.at)
