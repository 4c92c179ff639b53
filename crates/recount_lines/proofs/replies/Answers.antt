use Rattle.recount_lines.specs.Lines.{replies_at}
use Rattle.recount_lines.proofs.replies.Goals as goal

pub returns : goal.returns
unfolding replies_at
returns c = λ i. record { unique = c.count-unique.ensures i; duplicate = c.count-duplicate.ensures i; unknown = c.count-unknown.ensures i }
