use Rattle.std.specs.Prelude.{Option}
use Rattle.call_types.specs.declared.PendingPacket.{PendingPacket}
use mathlib.Core.Path.{ap, ◌∙◌}
use Rattle.record_parts.specs.declared.Entry.TheVariants as entry
use Rattle.log_record.specs.Records.{written_to}
use Rattle.log_record.proofs.Told.{told_is}
use Rattle.host_log_write.proofs.ambrulicciu_log_write_accept.Goals as goal

-- the record of the reply whose pending packet `pending_by` made
pub returns : goal.returns
returns c =
    let a = c.args in
    told_is _ _ _ _ c.number_in.ensures (c.write.ensures
    ∙ ap (λ (p : Option PendingPacket). written_to a.bytes.now (entry.Accept (record { key = record { sender = a.sender; reflector = a.reflector; t3 = a.t3 }; pending = p })))
    c.pending_by-held.ensures)
