use Rattle.std.proofs.Common.{ℕ, pos, ap, ◌∙◌, rules}
use lib.Ieee.{binary64, of_int}
use Rattle.floats.proofs.Words.{unit_pos, q_lt, q_ge, rest_lt, split, none_above, no_shift}
use Rattle.floats.proofs.nearest_magnitude.Goals as goal

pub returns-then-high-eq0 : goal.returns-then-high-eq0
returns-then-high-eq0 c = c.nearest.ensures ∙ none_above _ _ c.if-high-eq0.true

pub nearest_leading-requires : goal.nearest_leading-requires
nearest_leading-requires c = (no_shift _ _ c.if-shift-eq0.true c.normalizing_shift-shift.ensures.1, search rules, search rules)

pub nonzero_div-low : goal.nonzero_div-low
nonzero_div-low c =
    let s = c.before.before.before in
    let n = c.normalizing_shift-shift in
    unit_pos s.args.high s.args.low n.result c.if-shift-eq0.false n.ensures.0 n.ensures.1 n.ensures.2 s.ranges.low.fits

pub overflow_add-high : goal.overflow_add-high
overflow_add-high c =
    let s = c.before.before.before in
    let n = c.normalizing_shift-shift in
    record { fits = q_lt s.args.high s.args.low n.result c.if-shift-eq0.false n.ensures.0 n.ensures.1 n.ensures.2 s.ranges.low.fits }

pub nonzero_rem-low : goal.nonzero_rem-low
nonzero_rem-low c =
    let s = c.before.before.before in
    let n = c.normalizing_shift-shift in
    unit_pos s.args.high s.args.low n.result c.if-shift-eq0.false n.ensures.0 n.ensures.1 n.ensures.2 s.ranges.low.fits

pub nearest_leading-requires-2 : goal.nearest_leading-requires-2
nearest_leading-requires-2 c =
    let s = c.before.before.before in
    let n = c.normalizing_shift-shift in
    (q_ge s.args.high s.args.low n.result c.if-shift-eq0.false n.ensures.0 n.ensures.1 n.ensures.2 s.ranges.low.fits, search rules, rest_lt s.args.high s.args.low n.result c.if-shift-eq0.false n.ensures.0 n.ensures.1 n.ensures.2 s.ranges.low.fits)

pub returns : goal.returns
returns c =
    let s = c.before.before.before.before in
    let n = c.normalizing_shift-shift in
    c.nearest_leading-2.ensures ∙ ap (λ (m : ℕ). of_int binary64 (pos m)) (split s.args.high s.args.low n.result c.if-shift-eq0.false n.ensures.0 n.ensures.1 n.ensures.2 s.ranges.low.fits)
