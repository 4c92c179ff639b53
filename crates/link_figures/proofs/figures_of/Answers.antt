use mathlib.Core.Path.{refl}
use Rattle.link_figures.specs.Figures.{figures_of}
use Rattle.link_figures.proofs.figures_of.Goals as goal

pub returns : goal.returns
unfolding figures_of
returns c = rw (c.round_trip_of.ensures, c.session_of.ensures, c.missing_of.ensures, c.direct_of.ensures, c.followup_of.ensures, c.loss_of.ensures, c.summary_of-summary.ensures) refl
