-- `bit_errors::compared` The loop's invariant: the tally is that of the bytes passed, and `from` is the place in the
-- pattern where they end. Assumes nothing.
use mathlib.Core.Path.{◌≡◌}
use mathlib.Core.Logic.{◌⊎◌}
use Prim.Native.Nat.{◌≤◌, ◌<◌, ◌-◌, ◌%◌}
use lib.ListN.{length, take}
use Rattle.bit_runs.specs.Tally.{none}
use Rattle.bit_errors.specs.Errors.{wrong_from}
use Rattle.bit_errors.proofs.Parts.{up_to}
use Rattle.bit_errors.proofs.compared.Given as goal

abbrev pub invariant-loop-at : goal.invariant-loop-at
invariant-loop-at l =
    (l.at ≤ length l.padding) × (l.from < l.size) × ((l.at ≡ length l.padding) ⊎ (l.from ≡ l.at % l.size)) × (l.t ≡ up_to (wrong_from (take l.size l.room) 0 l.padding) none l.at)

abbrev pub decreases-loop-at : goal.decreases-loop-at
decreases-loop-at l = length l.padding - l.at
