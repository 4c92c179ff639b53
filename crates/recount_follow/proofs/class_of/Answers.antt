use mathlib.Core.Path.{ap, ◌∙◌}
use mir.Syntax.{w32}
use mir.ValLaws.{to_z-of_z}
use lib.IntN.{ℤ}
use Rattle.recount_follow.specs.Brief.{by_slot}
use borrow.Author.Tests.{eq-eqb, ne_eqb}
use Rattle.recount_follow.proofs.class_of.Goals as goal

pub returns-then-f : goal.returns-then-f
returns-then-f c = simp c.if-f.true

pub returns-then-f-own : goal.returns-then-f-own
returns-then-f-own c = simp (c.if-f.false, eq-eqb _ _ c.if-f-own.true)

pub returns : goal.returns
returns c =
    simp (c.if-f.false, ne_eqb _ _ c.if-f-own.false) (c.by_slot.ensures ∙ ap (λ (z : ℤ). by_slot c.args.f.timestamp z c.args.b) (to_z-of_z w32 c.args.offset c.ranges.offset))
