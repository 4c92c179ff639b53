use Rattle.std.proofs.Common.{Bool, sym, ap, ◌∙◌}
use Rattle.series.specs.Series.{recorded_beside}
use Rattle.series.proofs.Ways.{way_fits}
use Rattle.series.proofs.record_beside.Goals as goal

pub returns-then-fits : goal.returns-then-fits
returns-then-fits c =
    let a = c.args in
    way_fits a.q a.room.now a.value _ _ a.fits c.if-fits.true c.record.ensures

pub returns : goal.returns
returns c =
    let a = c.args in
    c.refused_beside.ensures ∙ ap (λ (fits : Bool). recorded_beside fits a.q a.room.now a.value) (sym c.if-fits.false)
