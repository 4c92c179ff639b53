use Rattle.std.proofs.Common.{◌≤◌, length}
use Rattle.sample_guess.proofs.chosen.Given as goal

-- Assumes nothing.
abbrev pub invariant-loop-i : goal.invariant-loop-i
invariant-loop-i l = (l.n ≤ length l.keys) × (l.mask ≤ 255)
