use native.Mathlib.Omega.{arith}
use lib.Pow.{shl_exact}
use Rattle.bit_errors.proofs.shifted.Goals as goal

pub returns : goal.returns
returns c = shl_exact 8 c.args.by 64 c.ranges.byte.fits (omega arith)
