-- `log_whole::first_bad` The loop's invariant: every record up to `i` is good, so what is left decides. Assumes nothing.
use mathlib.Core.Path.{◌≡◌}
use Prim.Native.Nat.{◌-◌}
use Rattle.log_whole.specs.Logs.{first_bad}
use Rattle.log_whole.proofs.first_bad.Given as goal

abbrev pub invariant-loop-i : goal.invariant-loop-i
invariant-loop-i l = first_bad l.log l.start 0 l.count ≡ first_bad l.log l.start l.i (l.count - l.i)
