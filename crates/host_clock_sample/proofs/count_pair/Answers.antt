use mathlib.Core.Path.{sym, ap, ◌∙◌}
use Rattle.estimate.specs.Error.{reading_of}
use Rattle.host_clock_sample.proofs.count_pair.Goals as goal

pub count_known-requires : goal.count_known-requires
count_known-requires c = (
  c.requires,
  sym (ap reading_of c.from_wire.ensures) ∙ sym c.reading-first.ensures.is ∙ c.in-Known.is,
  sym (ap reading_of c.from_wire-2.ensures) ∙ sym c.reading-second.ensures.is ∙ c.in-Known-second.is,
)
