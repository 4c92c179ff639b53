use mathlib.Core.Path.{ap, ◌∙◌}
use mathlib.Core.Bool.{◌&&◌}
use Prim.Native.Nat.{ℕ}
use Rattle.limits.proofs.Numbers.{none_is}
use lib.Dec.{leb, eqb}
use lib.ListN.{get_or}
use Rattle.host_burst_bounds.specs.Lasts.{last_calls, lasts}
use Rattle.host_burst_bounds.proofs.lasts.Goals as goal

pub returns : goal.returns
unfolding lasts
returns c =
    let a = c.args in
    λ i. (none_is _ _ c.is_none.ensures ∙ ap (λ (n : ℕ). eqb n 0) c.refusal-refused.ensures) i && leb a.count 256
    && (c.low_totals-totals.ensures i && c.low_answers-answers.ensures i && c.low_others-others.ensures i && leb (get_or a.state.now 5 0) last_calls)
