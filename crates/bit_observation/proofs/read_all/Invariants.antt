use mathlib.Core.Path.{◌≡◌}
use lib.ListN.{drop}
use Rattle.bit_observation.specs.declared.Reading.TheVariants.{On}
use Rattle.bit_observation.specs.Reading.{read_all, nothing}
use Rattle.bit_observation.proofs.read_all.Given as goal

abbrev pub invariant-loop-word : goal.invariant-loop-word
invariant-loop-word l = read_all l.bytes l.pattern (On nothing) l.items ≡ read_all l.bytes l.pattern l.reading (drop l.word-index l.items)
