use Rattle.floats.proofs.Negative.{below_zero, is_zero, above_zero, hi_not, lo_not, both_zero}
use Rattle.floats.proofs.nearest_signed.Goals as goal
use Rattle.floats.proofs.nearest_signed.Goals.{then-high-eq0+else-low-eq0, else-high-eq0}

pub returns-then-low-eq0 : goal.returns-then-low-eq0
returns-then-low-eq0 c = is_zero c.args.negative _ _ (both_zero _ _ c.if-high-eq0.true c.if-low-eq0.true) c.nearest_magnitude-nearest.ensures

pub returns-then-negative : goal.returns-then-negative
returns-then-negative c =
    elim c.if-high-eq0.branch [
      | then-high-eq0+else-low-eq0 w ↦ below_zero _ _ _ c.if-negative.true (lo_not _ _ w.if-low-eq0.false) c.nearest_magnitude-nearest.ensures
      | else-high-eq0 w ↦ below_zero _ _ _ c.if-negative.true (hi_not _ _ w.if-high-eq0.false) c.nearest_magnitude-nearest.ensures
    ]

pub returns : goal.returns
returns c = above_zero _ _ _ c.if-negative.false c.nearest_magnitude-nearest.ensures
