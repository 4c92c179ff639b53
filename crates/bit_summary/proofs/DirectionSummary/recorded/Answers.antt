use Rattle.std.proofs.Common.{arith}
use Rattle.bit_summary.proofs.Steps.{wrong-fits, with-burst, without-burst}
use Rattle.bit_summary.proofs.DirectionSummary.recorded.Goals as goal

pub overflow_add-with_errors : goal.overflow_add-with_errors
overflow_add-with_errors c =
    let a = c.args in
    record { fits = omega (arith, wrong-fits a.sample.errors c.wrong_packet-wrong.ensures, c.requires.faulty) }

pub returns-in-Some : goal.returns-in-Some
returns-in-Some c =
    let a = c.args in
    with-burst a.self a.sample _ c.wrong_packet-wrong.ensures _ _ c.in-Some.is c.greater_burst-greatest.ensures

pub returns-in-None : goal.returns-in-None
returns-in-None c =
    let a = c.args in
    without-burst a.self a.sample _ c.wrong_packet-wrong.ensures c.in-None.is
