use mathlib.Core.Path.{refl}
use Rattle.link_figures.proofs.loss_of.Goals as goal

pub returns : goal.returns
returns c = rw (c.figure_of.ensures, c.thousandths_of-thousandths.ensures, c.unobserved_replies-unobserved.ensures) refl
