use Rattle.std.specs.Prelude.{Some, None}
use mathlib.Core.Path.{sym, ap, ◌∙◌}
use mathlib.Core.Bool.{Bool, true, false, cond}
use lib.Dec.{eqb}
use Rattle.host_ledger.proofs.parts.extreme_of.Goals as goal

pub returns-then-is_set : goal.returns-then-is_set
returns-then-is_set c =
    let args = c.args in
    sym (ap (λ (b : Bool). cond b (Some (record { negative = eqb args.kind 2; magnitude = args.magnitude })) None) (sym c.is_set.ensures ∙ c.if-is_set.true))

pub returns : goal.returns
returns c =
    let args = c.args in
    sym (ap (λ (b : Bool). cond b (Some (record { negative = eqb args.kind 2; magnitude = args.magnitude })) None) (sym c.is_set.ensures ∙ c.if-is_set.false))
