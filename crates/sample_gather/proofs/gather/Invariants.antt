-- `sample_gather::gather`: the loop's invariant: what is kept are the keys of the samples passed.
use Prim.Native.Nat.{◌≤◌}
use mathlib.Core.Path.{◌≡◌}
use lib.ListN.{length, take}
use Rattle.sample_passes.specs.Keys.{shifted}
use Rattle.sample_passes.specs.Passes.{Gathering}
use Rattle.sample_gather.proofs.gather.Given as goal

-- Assumes nothing.
abbrev pub invariant-loop-i : goal.invariant-loop-i
invariant-loop-i l =
    (l.i ≤ l.count) × (l.count ≤ length l.samples) × (l.n ≤ l.i) × (length l.keys ≡ 256) × Gathering (shifted l.bias) (take l.i l.samples) l.low l.high l.n l.keys
