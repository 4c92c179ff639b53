use Rattle.std.specs.Prelude.{Some, None}
use mathlib.Core.Path.{refl, sym, ap, ◌∙◌}
use mathlib.Core.Bool.{Bool, true, false, cond}
use Rattle.host_numbers.specs.Numbers.{lower}
use Rattle.host_ledger.proofs.parts.reflector_of.Goals as goal

pub returns-then-is_set : goal.returns-then-is_set
returns-then-is_set c =
    let args = c.args in
    ap Some c.low.ensures ∙ sym (ap (λ (b : Bool). cond b (Some (lower args.word)) None) (sym c.is_set.ensures ∙ c.if-is_set.true))

pub returns : goal.returns
returns c =
    let args = c.args in
    sym (ap (λ (b : Bool). cond b (Some (lower args.word)) None) (sym c.is_set.ensures ∙ c.if-is_set.false))
