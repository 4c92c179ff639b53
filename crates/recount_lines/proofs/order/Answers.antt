use Rattle.recount_lines.specs.Lines.{order_at}
use Rattle.recount_lines.proofs.order.Goals as goal

pub returns : goal.returns
unfolding order_at
returns c = λ i. record { reordered = c.count-reordered.ensures i; independent = c.count-independent.ensures i }
