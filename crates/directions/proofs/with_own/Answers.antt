use mathlib.Core.Path.{sym, ap}
use mathlib.Core.Bool.{Bool}
use Rattle.directions.specs.Directions.{with_own}
use Rattle.directions.proofs.with_own.Goals as goal

pub returns-then-reverse : goal.returns-then-reverse
returns-then-reverse c =
    let a = c.args in
    ap (λ (b : Bool). with_own a.directions b a.next) (sym c.if-reverse.true)

pub returns : goal.returns
returns c =
    let a = c.args in
    ap (λ (b : Bool). with_own a.directions b a.next) (sym c.if-reverse.false)
