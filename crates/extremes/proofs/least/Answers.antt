use mathlib.Core.Path.{sym}
use native.Mathlib.Omega.{arith}
use Rattle.buckets.specs.Signed.{order}
use Rattle.buckets.proofs.SignedFacts.{pick-below, pick-above}
use Rattle.extremes.proofs.least.Goals as goal

pub returns-then-is-was : goal.returns-then-is-was
returns-then-is-was c =
    let a = c.args in
    sym (pick-below (order a.signed a.value) (order a.signed a.old) a.value a.old (omega (arith, c.ordered-was.ensures, c.ordered-is.ensures, c.if-is-was.true)))

pub returns-else-is-was : goal.returns-else-is-was
returns-else-is-was c =
    let a = c.args in
    sym (pick-above (order a.signed a.value) (order a.signed a.old) a.value a.old (omega (arith, c.ordered-was.ensures, c.ordered-is.ensures, c.if-is-was.false)))
