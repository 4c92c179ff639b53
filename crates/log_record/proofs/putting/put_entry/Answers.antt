use mathlib.Core.Path.{sym, ap}
use Rattle.big_endian.specs.Fields.{written}
use Rattle.record_parts.specs.declared.Entry.{Entry}
use Rattle.log_record.specs.Records.{table_of}
use Rattle.log_record.proofs.putting.put_entry.Goals as goal

pub returns-in-Sent : goal.returns-in-Sent
unfolding table_of
returns-in-Sent c = rw (c.put_sent.ensures, c.put_frame.ensures) (sym (ap (λ (x : Entry). written (table_of x) c.args.bytes.now) c.in-Sent.is))

pub returns-in-Accept : goal.returns-in-Accept
unfolding table_of
returns-in-Accept c = rw (c.put_accept.ensures, c.put_frame-in-Accept.ensures, c.flag_of.ensures.value) (sym (ap (λ (x : Entry). written (table_of x) c.args.bytes.now) c.in-Accept.is))

pub returns-in-Observe : goal.returns-in-Observe
unfolding table_of
returns-in-Observe c = rw (c.put_observe.ensures, c.put_frame-in-Observe.ensures, c.observe_flags.ensures) (sym (ap (λ (x : Entry). written (table_of x) c.args.bytes.now) c.in-Observe.is))

pub returns-in-Advance : goal.returns-in-Advance
unfolding table_of
returns-in-Advance c = rw (c.put_u64.ensures, c.put_frame-in-Advance.ensures) (sym (ap (λ (x : Entry). written (table_of x) c.args.bytes.now) c.in-Advance.is))

pub returns-in-Idle : goal.returns-in-Idle
unfolding table_of
returns-in-Idle c = rw c.put_frame-in-Idle.ensures (sym (ap (λ (x : Entry). written (table_of x) c.args.bytes.now) c.in-Idle.is))
