use mathlib.Core.Path.{sym, ◌∙◌}
use Rattle.bit_observation.proofs.Laws.{no_count, too_many, bad-burst, good}
use Rattle.bit_observation.proofs.judge_count.Goals as goal

pub returns-then-n-bits : goal.returns-then-n-bits
returns-then-n-bits c =
    let a = c.args in
    too_many a.value.now a.pattern.now a.wanted a.count a.burst _ c.in-Some.is c.if-n-bits.true

pub returns-then-burst_fits : goal.returns-then-burst_fits
returns-then-burst_fits c =
    let a = c.args in
    good a.value.now a.pattern.now a.wanted a.count a.burst _ c.in-Some.is c.if-n-bits.false (sym c.burst_fits.ensures ∙ c.if-burst_fits.true) c.counted.ensures

pub returns-else-burst_fits : goal.returns-else-burst_fits
returns-else-burst_fits c =
    let a = c.args in
    bad-burst a.value.now a.pattern.now a.wanted a.count a.burst _ c.in-Some.is c.if-n-bits.false (sym c.burst_fits.ensures ∙ c.if-burst_fits.false)

pub returns-in-None : goal.returns-in-None
returns-in-None c =
    let a = c.args in
    no_count a.value.now a.pattern.now a.wanted a.count a.burst c.in-None.is
