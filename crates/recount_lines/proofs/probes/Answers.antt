use Rattle.recount_lines.specs.Lines.{probes_at}
use Rattle.recount_lines.proofs.probes.Goals as goal

pub returns : goal.returns
unfolding probes_at
returns c = λ i. record { answered = c.count-answered.ensures i; additional = c.count-additional.ensures i; late = c.count-late.ensures i }
