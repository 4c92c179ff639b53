use native.Mathlib.Omega.{arith}
use Rattle.decimal.proofs.Places.{then}
use Rattle.template.proofs.words.put_figure.Goals as goal

pub returns : goal.returns
returns c =
    then (omega (arith, c.requires)) c.put_text-behind.ensures c.put_decimal.ensures
