use mathlib.Core.Path.{◌≡◌, sym, subst}
use mathlib.Core.Bool.{Bool}
use Rattle.buckets.specs.Signed.{order}
use Rattle.exact_rank.specs.Rank.{at_ranks}
use Rattle.percentiles.proofs.exact_four.Goals as goal

pub returns-then-q : goal.returns-then-q
returns-then-q c =
    let a = c.args in
    subst (λ (s : Bool). c.pick_four_signed.result ≡ at_ranks (order s) a.room.now a.q.count a.ranks) (sym c.if-q.true) c.pick_four_signed.ensures

pub returns : goal.returns
returns c =
    let a = c.args in
    subst (λ (s : Bool). c.pick_four_unsigned.result ≡ at_ranks (order s) a.room.now a.q.count a.ranks) (sym c.if-q.false) c.pick_four_unsigned.ensures
