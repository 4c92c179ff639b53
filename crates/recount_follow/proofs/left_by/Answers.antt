use Rattle.std.proofs.Common.{rules}
use mathlib.Core.Path.{ap, ◌∙◌}
use mir.Syntax.{w64}
use mir.ValLaws.{to_z-of_z}
use lib.IntN.{ℤ}
use Rattle.recount_follow.specs.Brief.{left_time}
use Rattle.recount_follow.proofs.left_by.Goals as goal

pub returns-then-copies-o : goal.returns-then-copies-o
returns-then-copies-o c = simp c.if-copies-o.true

pub returns : goal.returns
returns c =
    simp c.if-copies-o.false (c.left_time.ensures ∙ ap (λ (z : ℤ). left_time c.args.o.t4 c.args.o.format z) (to_z-of_z w64 c.args.o.reference (search rules)))
