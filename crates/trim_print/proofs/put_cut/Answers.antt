use native.Mathlib.Omega.{arith}
use Rattle.decimal.proofs.Places.{then}
use Rattle.trim_print.proofs.put_cut.Goals as goal

pub returns : goal.returns
returns c =
    let two = then (omega (arith, c.requires)) c.put_figure-first.ensures c.put_figure-second.ensures in
    let three = then (omega (arith, c.requires)) two c.put_figure-third.ensures in
    then (omega (arith, c.requires)) three c.put_text.ensures
