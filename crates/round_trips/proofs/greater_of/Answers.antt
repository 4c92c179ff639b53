use Rattle.std.specs.Prelude.{Some}
use mathlib.Core.Path.{sym, ap, ◌∙◌}
use lib.IntN.{pos}
use Rattle.delays.specs.Sums.{nanoseconds_of}
use Rattle.delays.proofs.Steps.{now_most, still-most, first-most}
use Rattle.round_trips.proofs.greater_of.Goals as goal

pub returns-then-over : goal.returns-then-over
returns-then-over c =
    let a = c.args in
    ap Some c.from_u64.ensures ∙ now_most a.extreme (nanoseconds_of (pos a.ns)) _ c.in-Some.is (sym c.over.ensures ∙ c.if-over.true)

pub returns-else-over : goal.returns-else-over
returns-else-over c =
    let a = c.args in
    still-most a.extreme (nanoseconds_of (pos a.ns)) _ c.in-Some.is (sym c.over.ensures ∙ c.if-over.false)

pub returns-in-None : goal.returns-in-None
returns-in-None c = ap Some c.from_u64-in-None.ensures ∙ first-most _ _ c.in-None.is
