-- `percentiles::any_lies` The loop's invariant: of the percentiles passed no block lies, so that the others decide. Assumes nothing.
use mathlib.Core.Path.{◌≡◌}
use lib.ListN.{drop}
use Rattle.percentiles.specs.Percentiles.{any_lies}
use Rattle.percentiles.proofs.any_lies.Given as goal

abbrev pub invariant-loop-p : goal.invariant-loop-p
invariant-loop-p l = any_lies l.q l.room (drop l.p-index l.ps) ≡ any_lies l.q l.room l.ps
