use Rattle.std.specs.Prelude.{Some, None}
use mathlib.Core.Path.{sym, ap, ◌∙◌}
use mathlib.Core.Bool.{Bool, true, false, cond}
use lib.ListN.{get_or}
use Rattle.host_ledger.specs.Parts.{window_at, epoch_of}
use Rattle.host_ledger.proofs.window_of.Goals as goal

pub returns-then-is_set : goal.returns-then-is_set
unfolding window_at
returns-then-is_set c =
    let w = c.args.state.now in
    ap Some c.epoch_of.ensures
    ∙ sym (ap (λ (b : Bool). cond b (Some (epoch_of (get_or w 39 0) (get_or w 40 0) (get_or w 41 0) (get_or w 42 0) (get_or w 43 0))) None) (sym c.is_set.ensures ∙ c.if-is_set.true))

pub returns : goal.returns
unfolding window_at
returns c =
    let w = c.args.state.now in
    sym (ap (λ (b : Bool). cond b (Some (epoch_of (get_or w 39 0) (get_or w 40 0) (get_or w 41 0) (get_or w 42 0) (get_or w 43 0))) None) (sym c.is_set.ensures ∙ c.if-is_set.false))
