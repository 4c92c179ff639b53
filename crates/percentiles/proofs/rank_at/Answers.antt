use mathlib.Core.Path.{◌∙◌, ap}
use Prim.Native.Nat.{ℕ}
use lib.Ieee.{nan}
use lib.ListN.{get_or}
use Rattle.rank.specs.Rank.{rank_of}
use Rattle.percentiles.proofs.rank_at.Goals as goal

pub returns : goal.returns
returns c =
    let a = c.args in
    c.rank.ensures ∙ ap (λ (j : ℕ). rank_of (get_or a.ps.now j nan) a.q.count) c.or_last-place.ensures.0
