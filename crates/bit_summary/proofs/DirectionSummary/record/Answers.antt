use Rattle.std.proofs.Common.{sym, ◌∙◌}
use Rattle.bit_summary.proofs.Steps.{fit_bounded, too_many, full, counted}
use Rattle.bit_summary.proofs.DirectionSummary.record.Goals as goal

pub returns-then-sample-gt-MOST_BITS : goal.returns-then-sample-gt-MOST_BITS
returns-then-sample-gt-MOST_BITS c =
    let a = c.args in
    too_many a.self a.sample c.if-sample-gt-MOST_BITS.true

pub recorded-requires : goal.recorded-requires
recorded-requires c =
    let a = c.args in
    fit_bounded a.self a.sample (sym c.counts_fit.ensures ∙ c.if-counts_fit.true) c.if-sample-gt-MOST_BITS.false

pub returns-then-counts_fit : goal.returns-then-counts_fit
returns-then-counts_fit c =
    let a = c.args in
    counted a.self a.sample c.if-sample-gt-MOST_BITS.false (sym c.counts_fit.ensures ∙ c.if-counts_fit.true) c.recorded.ensures

pub returns : goal.returns
returns c =
    let a = c.args in
    full a.self a.sample c.if-sample-gt-MOST_BITS.false (sym c.counts_fit.ensures ∙ c.if-counts_fit.false)
