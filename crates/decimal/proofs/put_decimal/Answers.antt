use mathlib.Core.Path.{ap}
use Prim.Native.Nat.{ℕ, ◌+◌}
use native.Mathlib.Omega.{arith}
use Rattle.decimal.proofs.Laws.{word-digits}
use Rattle.decimal.proofs.put_decimal.Goals as goal

pub put_digits-requires : goal.put_digits-requires
put_digits-requires c =
    let start = c.before.before.before in
    (c.digits_of-digits.ensures, omega (arith, c.digits_of-digits.ensures, word-digits start.args.n start.ranges.n.fits))

pub overflow_add-result : goal.overflow_add-result
overflow_add-result c =
    let start = c.before.before.before.before.before.before in
    omega (arith, c.digits_of-digits.ensures, word-digits start.args.n start.ranges.n.fits)

pub returns : goal.returns
returns c =
    let start = c.before.before.before.before.before.before in
    record {
      bytes = c.put_digits.ensures;
      end = ap (λ (n : ℕ). start.args.at + n) c.digits_of-digits.ensures;
      short = word-digits start.args.n start.ranges.n.fits;
    }
