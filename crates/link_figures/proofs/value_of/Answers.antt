use mathlib.Core.Path.{sym, ap}
use Rattle.link_figures.specs.Figures.{value_of}
use Rattle.link_figures.proofs.value_of.Goals as goal

pub returns-in-Some : goal.returns-in-Some
returns-in-Some c = sym (ap value_of c.in-Some.is)
