use mathlib.Core.Path.{◌≡◌}
use lib.ListN.{drop}
use Rattle.bit_observation.specs.Observation.{failed}
use Rattle.bit_observation.proofs.any_failed.Given as goal

abbrev pub invariant-loop-word : goal.invariant-loop-word
invariant-loop-word l = failed l.items ≡ failed (drop l.word-index l.items)
