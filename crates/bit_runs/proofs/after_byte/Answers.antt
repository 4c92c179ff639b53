use Prim.Native.Nat.{◌-◌}
use native.Mathlib.Omega.{arith}
use lib.Count.{leading_le, ones-le}
use Rattle.bit_runs.proofs.Steps.{clean, stepped}
use Rattle.bit_runs.proofs.after_byte.Goals as goal

pub returns-then-byte-eq0 : goal.returns-then-byte-eq0
returns-then-byte-eq0 c = clean 7 c.args.t c.requires.run c.args.byte c.if-byte-eq0.true

pub overflow_add-t : goal.overflow_add-t
overflow_add-t c =
    record { fits = omega (arith, leading_le 8 (255 - c.args.byte), c.requires.longest, c.requires.run) }

pub overflow_add-result : goal.overflow_add-result
overflow_add-result c =
    record { fits = omega (arith, ones-le 8 c.args.byte c.ranges.byte.fits, c.requires.errors) }

pub returns : goal.returns
returns c =
    stepped 8 c.args.byte c.args.t c.ranges.byte.fits c.run_after_byte.ensures
    (omega (arith, c.with_run_in_byte.ensures, c.max-reached.ensures))
