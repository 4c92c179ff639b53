use Rattle.std.proofs.Common.{rules}
use mathlib.Core.Path.{ap, ◌∙◌}
use mir.Syntax.{w32}
use mir.ValLaws.{to_z-of_z}
use lib.IntN.{ℤ}
use borrow.Author.Tests.{eq-eqb, ne_eqb}
use Rattle.recount_follow.specs.declared.Left.{Left}
use Rattle.recount_follow.specs.Brief.{followed, left_by, raised}
use Rattle.recount_follow.proofs.Laws.{followed-less}
use Rattle.recount_follow.proofs.observed_by.Goals as goal

pub raised-requires : goal.raised-requires
raised-requires c =
    followed-less c.args.o.follow c.args.o.key.reflector c.args.o.offset c.args.number 4294967296 c.args.b c.followed-after.result (c.followed-after.ensures ∙ ap (λ (z : ℤ). followed c.args.o.follow c.args.o.key.reflector z c.args.number c.args.b) (to_z-of_z w32 c.args.o.offset (search rules))) c.requires

pub returns-then-number-own : goal.returns-then-number-own
returns-then-number-own c =
    simp (eq-eqb _ _ c.if-number-own.true) (c.raised.ensures ∙ ap (λ (k : Left). raised k c.followed-after.result) c.left_by.ensures ∙ ap (raised (left_by c.args.copies c.args.o)) (c.followed-after.ensures ∙ ap (λ (z : ℤ). followed c.args.o.follow c.args.o.key.reflector z c.args.number c.args.b) (to_z-of_z w32 c.args.o.offset (search rules))))

pub returns : goal.returns
returns c =
    simp (ne_eqb _ _ c.if-number-own.false) (c.followed-after.ensures ∙ ap (λ (z : ℤ). followed c.args.o.follow c.args.o.key.reflector z c.args.number c.args.b) (to_z-of_z w32 c.args.o.offset (search rules)))
