-- `word_runs::longest_in_word` The loop's invariant: the tally is that of the bits above `below`. Assumes nothing.
use mathlib.Core.Path.{◌≡◌}
use Prim.Native.Nat.{ℕ, ◌≤◌, ◌-◌, ◌/◌, ◌%◌, ◌^◌}
use Rattle.bit_runs.specs.declared.Tally.{Tally}
use Rattle.bit_runs.specs.Bits.{bits_of}
use Rattle.bit_runs.specs.Tally.{none, after}
use Rattle.word_runs.proofs.longest_in_word.Given as goal

-- the bits above a place, counted
abbrev pub above : (word below : ℕ) → Tally
above word below = after (bits_of (64 - below) (word / 2 ^ below)) none

abbrev pub invariant-loop-below : goal.invariant-loop-below
invariant-loop-below l = (l.below ≤ 64) × (l.below % 8 ≡ 0) × (l.t ≡ above l.word l.below)

abbrev pub decreases-loop-below : goal.decreases-loop-below
decreases-loop-below l = l.below
