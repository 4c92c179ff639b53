use mathlib.Core.Path.{sym, ◌∙◌}
use Rattle.bit_observation.proofs.with_padding.Goals as goal

pub returns-then-absent : goal.returns-then-absent
returns-then-absent c = rw (sym c.absent.ensures ∙ c.if-absent.true)

pub returns : goal.returns
returns c = rw (sym c.absent.ensures ∙ c.if-absent.false)
