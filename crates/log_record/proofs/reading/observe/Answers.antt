use mathlib.Core.Path.{ap, ◌∙◌}
use mathlib.Core.Bool.{Bool}
use mir.Syntax.{w32, w64}
use mir.ValLaws.{to_z-of_z}
use Rattle.big_endian.specs.Numbers.{number_at}
use Rattle.estimate.specs.Make.{format_of}
use Rattle.record_parts.specs.Parts.{time_by, ordinal_by}
use Rattle.log_record.proofs.reading.observe.Goals as goal

pub returns : goal.returns
returns c = λ i. record {
  key = c.key.ensures i;
  rtt = c.u64_at.ensures i;
  t4 = (c.time.ensures ∙ ap (λ (b : Bool). time_by b (number_at 3 c.args.bytes.now 28)) c.flag_set.ensures) i;
  format = (c.format_by.ensures ∙ ap format_of c.flag_set-2.ensures) i;
  reference = (to_z-of_z w64 c.reference.result (record { sfits = c.reference.type_inv }) ∙ c.reference.ensures) i;
  offset = (to_z-of_z w32 c.offset.result (record { sfits = c.offset.type_inv }) ∙ c.offset.ensures) i;
  ordinal = (c.ordinal.ensures ∙ ap (λ (b : Bool). ordinal_by b (number_at 2 c.args.bytes.now 48)) c.flag_set-3.ensures) i;
  counters = c.counters.ensures i;
  follow = c.follow.ensures i;
  quality = c.estimates.ensures i;
}
