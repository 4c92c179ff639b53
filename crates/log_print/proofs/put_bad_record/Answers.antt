use native.Mathlib.Omega.{arith}
use Rattle.decimal.proofs.Places.{within, then}
use Rattle.log_print.proofs.put_bad_record.Goals as goal

pub returns : goal.returns
returns c =
    let start = c.before.before.before.before.before.before.before.before.before.before.before in
    within (omega arith) (then (omega (arith, start.requires)) c.put_figure-end.ensures c.put_text.ensures)
