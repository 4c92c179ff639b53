use Rattle.host_quality.specs.Words.{error_of, estimate_of}
use Rattle.host_quality.proofs.estimate_of.Goals as goal

pub returns : goal.returns
unfolding estimate_of
returns c = rw (c.format_of.ensures, c.error_of.ensures)
