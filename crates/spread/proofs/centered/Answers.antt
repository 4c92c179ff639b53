use Rattle.spread.proofs.Steps.{centered-below, centered-above}
use Rattle.spread.proofs.centered.Goals as goal

pub returns-then-value-origin : goal.returns-then-value-origin
returns-then-value-origin c =
    let a = c.args in
    centered-below a.value a.origin _ c.if-value-origin.true c.nearest_signed.ensures

pub returns : goal.returns
returns c =
    let a = c.args in
    centered-above a.value a.origin _ c.if-value-origin.false c.nearest_signed-2.ensures
