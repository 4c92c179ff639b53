use mathlib.Core.Path.{sym, ap}
use Rattle.link_figures.specs.Figures.{time_of}
use Rattle.link_figures.proofs.time_of.Goals as goal

pub returns-in-Some : goal.returns-in-Some
returns-in-Some c = sym (ap time_of c.in-Some.is)
