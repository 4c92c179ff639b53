use native.Mathlib.Omega.{arith}
use Rattle.bit_runs.specs.Bits.{bits_of}
use Rattle.bit_runs.proofs.Lists.{longest_bound}
use Rattle.bit_runs.proofs.Digits.{bits_length}
use Rattle.bit_runs.proofs.with_run_in_byte.Goals as goal

pub returns : goal.returns
returns c = omega (arith, c.if-known-lt8.false, longest_bound 0 (bits_of 8 c.args.byte), bits_length 8 c.args.byte)
