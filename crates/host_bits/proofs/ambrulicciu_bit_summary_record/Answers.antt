use Rattle.host_bits.proofs.Answers.{record-refused, record-counted}
use Rattle.host_bits.proofs.ambrulicciu_bit_summary_record.Goals as goal

pub returns-in-Err : goal.returns-in-Err
returns-in-Err c =
    let a = c.args in
    record-refused a.summary.now a.bits a.errors a.known a.burst _ _ c.load-state.ensures c.burst_from-run.ensures _ _ c.in-Err.ensures c.from.ensures

pub returns-in-Ok : goal.returns-in-Ok
returns-in-Ok c =
    let a = c.args in
    record-counted a.summary.now a.bits a.errors a.known a.burst _ _ c.load-state.ensures c.burst_from-run.ensures _ _ c.in-Ok.ensures c.store.ensures
