use mathlib.Core.Path.{ap, ◌∙◌}
use Prim.Native.Nat.{ℕ}
use Rattle.std.proofs.Common.{rules}
use Rattle.recount_counts.specs.Tests.{test_by, passing}
use Rattle.recount_counts.proofs.Laws.{passing_is, none_pass}
use Rattle.recount_counts.proofs.count.Goals as goal

pub returns-in-Some : goal.returns-in-Some
returns-in-Some c =
    let a = c.args in
    passing_is _ _ _ c.count_where.ensures (λ j b h. search rules) ∙ ap (λ (k : ℕ). passing (test_by k a.copies) a.records.log.now a.records.marks.now a.n) c.in-Some.ensures

pub returns-in-None : goal.returns-in-None
returns-in-None c = none_pass _ _ c.in-None.ensures _ _ _
