use mathlib.Core.Path.{sym, ap}
use Rattle.link_figures.specs.Figures.{figure_of}
use Rattle.link_figures.proofs.figure_of.Goals as goal

pub returns-in-Some : goal.returns-in-Some
returns-in-Some c = sym (ap figure_of c.in-Some.is)
