use mathlib.Core.Path.{refl}
use Rattle.link_figures.proofs.missing_of.Goals as goal

pub returns : goal.returns
returns c = rw (c.value_of-2.ensures, c.value_of.ensures) refl
