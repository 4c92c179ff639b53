use Prim.Native.Nat.{◌/◌, ◌+◌}
use native.Mathlib.Nat.{div-le_self}
use native.Mathlib.Omega.{arith}
use Rattle.bit_errors.proofs.Patterns.{times-over}
use Rattle.bit_errors.proofs.times.Goals as goal

pub overflow_add-padding-2 : goal.overflow_add-padding-2
overflow_add-padding-2 c = record { fits = omega (arith, c.requires.2, div-le_self (8 + c.args.padding / 32) c.args.length) }

pub returns : goal.returns
returns c =
    times-over c.args.length (c.args.padding / 32) c.min.result c.requires.0 c.requires.1 c.min.ensures
