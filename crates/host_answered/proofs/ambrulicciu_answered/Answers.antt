use Rattle.std.specs.Prelude.{Result, Bool}
use mathlib.Core.Path.{sym, ap, ◌∙◌}
use mathlib.Core.List.{[], ◌∷◌}
use Prim.Native.Nat.{ℕ}
use Rattle.limits.specs.declared.Refusal.{Refusal}
use Rattle.limits.specs.Numbers.{numbered}
use Rattle.host_answered.specs.Answered.{left, left_by}
use Rattle.host_answered.proofs.Steps.{answered-as}
use Rattle.host_answered.proofs.ambrulicciu_answered.Goals as goal

pub returns-in-Err : goal.returns-in-Err
returns-in-Err c =
    ap (λ (n : ℕ). left n c.args.answer.now) c.from.ensures
    ∙ sym (ap (λ (r : Result Bool Refusal). left_by (numbered r) c.args.answer.now) c.in-Err.is)
    ∙ answered-as c.args.ledger.now c.args.probes.now c.args.links.now c.args.sequence c.args.answer.now _ _ c.load-state.ensures c.answered.ensures

pub returns-in-Ok : goal.returns-in-Ok
returns-in-Ok c =
    ap (λ (n : ℕ). left 0 (n ∷ [])) c.flag.ensures.0
    ∙ sym (ap (λ (r : Result Bool Refusal). left_by (numbered r) c.args.answer.now) c.in-Ok.is)
    ∙ answered-as c.args.ledger.now c.args.probes.now c.args.links.now c.args.sequence c.args.answer.now _ _ c.load-state.ensures c.answered.ensures
