use Rattle.std.specs.Prelude.{None}
use mathlib.Core.Path.{ap, ◌∙◌}
use Rattle.call_types.specs.declared.ReplyObservation.{ReplyObservation}
use Rattle.record_parts.specs.declared.Entry.TheVariants as entry
use Rattle.log_record.specs.Records.{written_to}
use Rattle.log_record.proofs.Told.{told_is}
use Rattle.host_log_write.proofs.ambrulicciu_log_write_observe.Goals as goal

-- the record of the observation that the words say
pub returns : goal.returns
returns c =
    let a = c.args in
    told_is _ _ _ _ c.number_in.ensures (c.write.ensures
    ∙ ap (λ (o : ReplyObservation). written_to a.bytes.now (entry.Observe o None)) c.observation_of-told.ensures)
