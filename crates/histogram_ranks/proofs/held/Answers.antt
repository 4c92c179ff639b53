use mathlib.Core.Path.{◌∙◌, ap}
use mathlib.Core.List.{List}
use Prim.Native.Nat.{ℕ}
use Rattle.histogram.specs.Histogram.{bucket_at, left_at}
use Rattle.histogram_ranks.proofs.Blocks.{lent-totals}
use Rattle.histogram_ranks.proofs.held.Goals as goal

pub returns : goal.returns
returns c =
    let a = c.args in
    let e = lent-totals a.signed a.room.now c.totals_start-start.result c.totals_start-start.ensures in
    (c.find.ensures.0 ∙ ap (λ (l : List ℕ). bucket_at l a.rank) e, c.find.ensures.1 ∙ ap (λ (l : List ℕ). left_at l a.rank) e)
