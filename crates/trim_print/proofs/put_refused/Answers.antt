use native.Mathlib.Omega.{arith}
use Rattle.decimal.proofs.Places.{then}
use Rattle.trim_print.proofs.put_refused.Goals as goal

pub returns : goal.returns
returns c = then (omega (arith, c.requires)) c.put_figure-end.ensures c.put_text.ensures
