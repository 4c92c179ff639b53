use mathlib.Core.Path.{ap, ◌∙◌}
use Rattle.recount_lines.specs.Lines.{thousandths_of}
use Rattle.recount_lines.proofs.loss_by.Goals as goal

pub returns : goal.returns
returns c = λ i. record { requested = c.args.requested; unobserved = c.saturating_sub-lost.ensures i; thousandths = (c.thousandths_of.ensures ∙ ap (thousandths_of c.args.requested) c.saturating_sub-lost.ensures) i }
