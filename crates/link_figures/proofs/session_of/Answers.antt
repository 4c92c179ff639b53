use mathlib.Core.Path.{sym, ap, ◌∙◌}
use Rattle.link_figures.specs.Figures.{session_of}
use Rattle.link_figures.proofs.session_of.Goals as goal

pub returns-in-Some : goal.returns-in-Some
returns-in-Some c = c.session_by.ensures ∙ sym (ap session_of c.in-Some.is)
