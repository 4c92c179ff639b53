use mathlib.Core.Bool.{true, false}
use Prim.Native.Nat.{◌-◌}
use native.Mathlib.Omega.{arith}
use Rattle.histogram_ranks.proofs.Values.{clamp-low, clamp-high, clamp-between}
use Rattle.histogram_ranks.proofs.clamp.Goals as goal

pub returns-then-is-ordered : goal.returns-then-is-ordered
returns-then-is-ordered c =
    let a = c.args in
    clamp-low a.signed a.word a.low a.high (omega (arith, c.ordered-is.ensures, c.ordered.ensures, c.if-is-ordered.true))

pub returns-then-ordered-is : goal.returns-then-ordered-is
returns-then-ordered-is c =
    let a = c.args in
    clamp-high a.signed a.word a.low a.high (omega (arith, c.ordered-is.ensures, c.ordered.ensures, c.if-is-ordered.false)) (omega (arith, c.ordered-is.ensures, c.ordered-2.ensures, c.if-ordered-is.true))

pub returns : goal.returns
returns c =
    let a = c.args in
    clamp-between a.signed a.word a.low a.high (omega (arith, c.ordered-is.ensures, c.ordered.ensures, c.if-is-ordered.false)) (omega (arith, c.ordered-is.ensures, c.ordered-2.ensures, c.if-ordered-is.false))
