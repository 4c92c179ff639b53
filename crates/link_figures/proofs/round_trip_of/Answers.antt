use mathlib.Core.Path.{refl}
use Rattle.link_figures.proofs.round_trip_of.Goals as goal

pub returns : goal.returns
returns c = rw (c.time_of-2.ensures, c.time_of.ensures) refl
