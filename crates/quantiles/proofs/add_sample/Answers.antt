use mathlib.Core.Path.{◌∙◌, ap}
use Rattle.quantiles.specs.Record.{outcome, taken}
use Rattle.quantiles.proofs.Ways.{way_exact}
use Rattle.quantiles.proofs.add_sample.Goals as goal

pub returns : goal.returns
unfolding outcome
returns c =
    let a = c.args in
    let p = c.requires in
    ap (taken c.grow.result) c.put_sample.ensures ∙ way_exact a.q a.room.now a.value c.grow.result p.0 p.1 p.3 c.grow.ensures
