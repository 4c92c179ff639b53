use mathlib.Core.Path.{◌≡◌}
use Prim.Native.Nat.{◌-◌, ◌≤◌}
use Rattle.limits.specs.Limits.{capacity}
use Rattle.recount_observed.specs.Observed.{observation_at}
use Rattle.recount_window.specs.Window.{start_of}
use Rattle.recount_counts.specs.Tests.{passing}
use Rattle.recount_class.specs.Numbers.{figure_number}
use Rattle.recount_direct.specs.Classes.{direct_by}
use Rattle.recount_direct.proofs.count.Given as goal

abbrev pub invariant-loop-j : goal.invariant-loop-j
invariant-loop-j l = (l.total ≡ passing (direct_by (figure_number l.figure)) l.records.log.now l.records.marks.now l.j) × (l.total ≤ l.j) × (l.start ≡ start_of (observation_at l.records.log.now l.records.marks.now) capacity l.j) × (l.start ≤ l.j)
