use Rattle.std.proofs.Common.{sym}
use Rattle.sample_passes.proofs.Counting.{one_below, none_below}
use Rattle.sample_passes.proofs.one_below.Goals as goal

-- Assumes nothing.
pub returns-then-k-value : goal.returns-then-k-value
returns-then-k-value c = sym (one_below _ _ c.if-k-value.true)

pub returns-else-k-value : goal.returns-else-k-value
returns-else-k-value c = sym (none_below _ _ c.if-k-value.false)
