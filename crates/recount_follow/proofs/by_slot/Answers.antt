use mir.Syntax.{w32}
use mir.ValLaws.{to_z-of_z}
use lib.IntN.{ℤ}
use Rattle.recount_follow.specs.Brief.{by_record}
use mathlib.Core.Path.{sym, ap, ◌∙◌}
use borrow.Author.Tests.{eq-eqb, ne_eqb}
use Rattle.recount_follow.proofs.by_slot.Goals as goal

pub returns-then-b-ne1 : goal.returns-then-b-ne1
returns-then-b-ne1 c =
    simp (c.if-not-b.false, sym c.has_record.ensures, c.if-not-has_record.false, ne_eqb _ _ c.if-b-ne1.true)

pub returns-then-b : goal.returns-then-b
returns-then-b c =
    simp (c.if-not-b.false, sym c.has_record.ensures, c.if-not-has_record.false, eq-eqb _ _ c.if-b-ne1.false, c.if-b.true)

pub returns : goal.returns
returns c =
    simp (c.if-not-b.false, sym c.has_record.ensures, c.if-not-has_record.false, eq-eqb _ _ c.if-b-ne1.false, c.if-b.false) (c.by_record.ensures ∙ ap (λ (z : ℤ). by_record c.args.timestamp z c.args.b.left) (to_z-of_z w32 c.args.offset c.ranges.offset))
