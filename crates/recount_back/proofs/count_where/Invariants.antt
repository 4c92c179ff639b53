use Rattle.std.proofs.Common.{◌≤◌}
use Rattle.recount_back.specs.Back.{Counted}
use Rattle.recount_back.proofs.count_where.Given as goal

abbrev pub invariant-loop-j : goal.invariant-loop-j
invariant-loop-j g l = Counted (λ j b. goal.F-post g l.test j b) l.j l.count × (l.count ≤ l.j)
