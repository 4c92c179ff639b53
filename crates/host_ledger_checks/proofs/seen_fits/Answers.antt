use Rattle.std.specs.Prelude.{Some, None}
use mathlib.Core.Path.{sym, ap, ◌∙◌}
use mathlib.Core.Bool.{Bool, cond}
use lib.Dec.{leb}
use lib.ListN.{get_or}
use Rattle.limits.specs.Limits.{capacity}
use Rattle.direct.specs.Outcomes.{seen_in}
use Rattle.host_ledger.specs.Parts.{window_at, epoch_of}
use Rattle.host_ledger_checks.proofs.seen_fits.Goals as goal

pub returns-then-is_set : goal.returns-then-is_set
unfolding window_at epoch_of
returns-then-is_set c =
    let w = c.args.state.now in
    sym (ap (λ (b : Bool). leb (seen_in (cond b (Some (epoch_of (get_or w 39 0) (get_or w 40 0) (get_or w 41 0) (get_or w 42 0) (get_or w 43 0))) None)) capacity) (sym c.is_set.ensures ∙ c.if-is_set.true))

pub returns : goal.returns
unfolding window_at epoch_of
returns c =
    let w = c.args.state.now in
    sym (ap (λ (b : Bool). leb (seen_in (cond b (Some (epoch_of (get_or w 39 0) (get_or w 40 0) (get_or w 41 0) (get_or w 42 0) (get_or w 43 0))) None)) capacity) (sym c.is_set.ensures ∙ c.if-is_set.false))
