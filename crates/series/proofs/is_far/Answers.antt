use Rattle.series.proofs.Kept.{far_tested}
use Rattle.series.proofs.is_far.Goals as goal

pub returns : goal.returns
returns c =
    let a = c.args in
    far_tested a.sum a.word _ _ c.span_of-span.ensures c.sum_fits.ensures
