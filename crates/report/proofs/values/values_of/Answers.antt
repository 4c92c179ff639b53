use Rattle.report.specs.Lines.{values_of}
use Rattle.report.proofs.values.values_of.Goals as goal

pub returns : goal.returns
unfolding values_of
returns c =
    rw (c.shown_of-thousandths.ensures, c.shown_of-forward.ensures, c.shown_of-reverse.ensures, c.state_of-state.ensures, c.losses_of-losses.ensures, c.shown_of-min.ensures, c.shown_of-max.ensures)
