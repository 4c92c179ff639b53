-- `template::words::put_text` The loop's invariant: the first bytes of the text stand at the place, as `lib.Seq`'s `paste` has it.
-- Assumes nothing.
use mathlib.Core.Path.{◌≡◌}
use Prim.Native.Nat.{◌+◌}
use lib.ListN.{length}
use lib.Seq.{paste}
use Rattle.template.proofs.words.put_text.Given as goal

abbrev pub invariant-loop-byte : goal.invariant-loop-byte
invariant-loop-byte l = (l.place ≡ l.at + l.byte-index) × (l.bytes ≡ paste l.initial.bytes l.at l.text l.byte-index) × (length l.bytes ≡ length l.initial.bytes)
