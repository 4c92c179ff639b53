use mathlib.Core.Path.{◌∙◌}
use mir.Syntax.{w32, w64}
use mir.ValLaws.{to_z-of_z}
use Rattle.host_observation.specs.Observation.{observation_at}
use Rattle.host_observation.proofs.observation_of.Goals as goal

pub returns : goal.returns
unfolding observation_at
returns c = λ i. record {
  key = c.key.ensures i;
  rtt = c.both.ensures.0 i;
  t4 = c.received_at.ensures i;
  format = c.format.ensures i;
  reference = (to_z-of_z w64 c.reference.result (record { sfits = c.reference.type_inv }) ∙ c.reference.ensures) i;
  offset = (to_z-of_z w32 c.offset.result (record { sfits = c.offset.type_inv }) ∙ c.offset.ensures) i;
  ordinal = c.ordinal.ensures i;
  counters = c.counters.ensures i;
  follow = c.follow.ensures i;
  quality = c.estimates.ensures i;
}
