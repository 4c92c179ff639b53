use mathlib.Core.Path.{sym, ap, ◌∙◌}
use mir.Syntax.{w32}
use mir.ValLaws.{to_z-of_z}
use lib.Dec.{eqb}
use lib.IntN.{ℤ}
use Rattle.recount_follow.specs.Brief.{class_of}
use Rattle.recount_follow.proofs.followed_by.Goals as goal

pub returns-then-is_matched-number : goal.returns-then-is_matched-number
returns-then-is_matched-number c =
    simp (sym (c.is_matched.ensures ∙ ap (eqb 4) (c.class_of-class.ensures ∙ ap (λ (z : ℤ). class_of c.args.f c.args.own z c.args.b) (to_z-of_z w32 c.args.offset c.ranges.offset))), c.if-is_matched-number.true)

pub returns : goal.returns
returns c =
    simp (sym (c.is_matched.ensures ∙ ap (eqb 4) (c.class_of-class.ensures ∙ ap (λ (z : ℤ). class_of c.args.f c.args.own z c.args.b) (to_z-of_z w32 c.args.offset c.ranges.offset))), c.if-is_matched-number.false)
