use Rattle.std.specs.Prelude.{Some}
use mathlib.Core.Path.{sym, ap, ◌∙◌}
use lib.IntN.{pos}
use Rattle.delays.specs.Sums.{nanoseconds_of}
use Rattle.delays.proofs.Steps.{now_least, still-least, first-least}
use Rattle.round_trips.proofs.lesser_of.Goals as goal

pub returns-then-under : goal.returns-then-under
returns-then-under c =
    let a = c.args in
    ap Some c.from_u64.ensures ∙ now_least a.extreme (nanoseconds_of (pos a.ns)) _ c.in-Some.is (sym c.under.ensures ∙ c.if-under.true)

pub returns-else-under : goal.returns-else-under
returns-else-under c =
    let a = c.args in
    still-least a.extreme (nanoseconds_of (pos a.ns)) _ c.in-Some.is (sym c.under.ensures ∙ c.if-under.false)

pub returns-in-None : goal.returns-in-None
returns-in-None c = ap Some c.from_u64-in-None.ensures ∙ first-least _ _ c.in-None.is
