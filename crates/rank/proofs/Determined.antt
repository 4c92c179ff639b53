-- The contract of `rank` determines its answer.
use Rattle.std.proofs.Common.{sym, ◌∙◌}
use Rattle.floats.proofs.Determined.{OneAnswer}
use Rattle.rank.proofs.rank.Kinds.{ps, r}
use Rattle.rank.proofs.rank.Reads.{Post}

pub rank-unique : OneAnswer ps r Post
rank-unique κs a x y s t p q = p ∙ sym q
