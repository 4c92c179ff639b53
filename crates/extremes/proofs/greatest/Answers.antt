use mathlib.Core.Path.{sym}
use native.Mathlib.Omega.{arith}
use Rattle.buckets.specs.Signed.{order}
use Rattle.buckets.proofs.SignedFacts.{pick-below, pick-above}
use Rattle.extremes.proofs.greatest.Goals as goal

pub returns-then-was-is : goal.returns-then-was-is
returns-then-was-is c =
    let a = c.args in
    sym (pick-below (order a.signed a.old) (order a.signed a.value) a.value a.old (omega (arith, c.ordered-was.ensures, c.ordered-is.ensures, c.if-was-is.true)))

pub returns-else-was-is : goal.returns-else-was-is
returns-else-was-is c =
    let a = c.args in
    sym (pick-above (order a.signed a.old) (order a.signed a.value) a.value a.old (omega (arith, c.ordered-was.ensures, c.ordered-is.ensures, c.if-was-is.false)))
