use mathlib.Core.Path.{sym, ◌∙◌}
use Rattle.bit_observation.proofs.with_pattern.Goals as goal

pub returns-then-seen : goal.returns-then-seen
returns-then-seen c = rw c.if-seen.true

pub returns-then-same : goal.returns-then-same
returns-then-same c = rw (c.if-seen.false, sym c.same.ensures ∙ c.if-same.true)

pub returns : goal.returns
returns c = rw (c.if-seen.false, sym c.same.ensures ∙ c.if-same.false)
