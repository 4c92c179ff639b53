use mathlib.Core.Path.{◌≡◌}
use lib.ListN.{drop}
use Rattle.area_write.specs.Write.{first_bad}
use Rattle.area_write.proofs.first_bad.Given as goal

abbrev pub invariant-loop-word : goal.invariant-loop-word
invariant-loop-word l = first_bad l.values l.items ≡ first_bad l.values (drop l.word-index l.items)
