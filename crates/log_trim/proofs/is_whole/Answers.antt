use Rattle.std.proofs.Common.{rules}
use Rattle.log_cut.specs.Cut.{whole}
use Rattle.log_trim.proofs.is_whole.Goals as goal

pub returns : goal.returns
unfolding whole
returns c = search rules
