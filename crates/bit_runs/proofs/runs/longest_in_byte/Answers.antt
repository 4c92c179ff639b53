use Prim.Native.Nat.{ℕ, ◌<◌, ◌^◌}
use native.Mathlib.Omega.{arith}
use lib.ListN.{get_or}
use borrow.Author.Rules.{rules}
use Rattle.bit_runs.specs.Bits.{bits_of}
use Rattle.bit_runs.proofs.Lists.{longest_bound}
use Rattle.bit_runs.proofs.Digits.{bits_length}
use Rattle.bit_runs.proofs.Table.{table, rule}
use Rattle.bit_runs.proofs.runs.longest_in_byte.Goals as goal

small : (k : ℕ) → k < 256 → get_or table k 0 < 2 ^ 32
small k h = omega (arith, rule k h, longest_bound 0 (bits_of 8 k), bits_length 8 k)

pub overflow_cast-result : goal.overflow_cast-result
overflow_cast-result c = record { fits = small c.args.byte (search rules) }

pub returns : goal.returns
returns c = rule c.args.byte (search rules)
