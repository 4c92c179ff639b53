use mathlib.Core.Path.{sym, ◌∙◌, ap, subst}
use mathlib.Core.List.{List}
use Prim.Native.Nat.{ℕ, ◌≤◌}
use lib.Dec.{eqb}
use lib.ListN.{length}
use Rattle.histogram.specs.Histogram.{total}
use Rattle.histogram_ranks.proofs.Blocks.{lent-totals, totals-length, few_blocks}
use Rattle.percentiles.proofs.totals_are.Goals as goal

pub add_up-requires : goal.add_up-requires
add_up-requires c =
    let a = c.args in
    subst (λ (n : ℕ). n ≤ 65536) (sym (ap length (lent-totals a.q.signed a.room.now c.totals_start-start.result c.totals_start-start.ensures) ∙ totals-length a.q.signed a.room.now c.requires)) (few_blocks a.q.signed)

pub returns : goal.returns
returns c =
    let a = c.args in
    c.add_up.ensures ∙ ap (λ (l : List ℕ). eqb (total l) a.q.count) (lent-totals a.q.signed a.room.now c.totals_start-start.result c.totals_start-start.ensures)
