use Rattle.std.proofs.Common.{◌∙◌}
use Rattle.floats.proofs.Words.{none_below, some_below}
use Rattle.floats.proofs.nearest_leading.Goals as goal

pub returns-then-rest-eq0 : goal.returns-then-rest-eq0
returns-then-rest-eq0 c = let a = c.args in c.nearest_scaled.ensures ∙ none_below a.leading a.exponent a.rest c.if-rest-eq0.true

pub returns : goal.returns
returns c =
    let s = c.before.before in
    let a = s.args in
    c.nearest_scaled-2.ensures ∙ some_below a.leading a.exponent a.rest s.requires.0 s.ranges.leading.fits s.requires.2 c.if-rest-eq0.false
