use mathlib.Core.Path.{refl}
use Rattle.host_quality.specs.Words.{quality_words}
use Rattle.host_clock_quality.specs.Calls.{fresh_to}
use Rattle.host_clock_quality.proofs.ambrulicciu_clock_quality_fresh.Goals as goal

pub returns : goal.returns
unfolding fresh_to quality_words
returns c = refl
