use Rattle.std.proofs.Common.{◌≡◌, true, ℕ, ◌+◌, ◌/◌, ◌%◌, min, T, sym, ap, ◌∙◌, subst}
use lib.Ieee.{Float, binary64, fits}
use Rattle.floats.proofs.Doubled.{first, second, third, fourth}
use Rattle.floats.proofs.round_half_away.Goals as goal

-- what owning an `f64` tells: the format holds it
held : (x : Float) → fits binary64 x ≡ true → T (fits binary64 x)
held x h = subst T (sym h) tt

pub truncating_f64_to_u64-twice-requires : goal.truncating_f64_to_u64-twice-requires
truncating_f64_to_u64-twice-requires c =
    let r = first _ (held _ c.well_formed.0.1) c.if-x.true c.if-x-2.true in
    record { lower_bound = r.2.0; upper_bound = r.2.1 }

pub returns-then-x-2 : goal.returns-then-x-2
returns-then-x-2 c =
    let r = first _ (held _ c.well_formed.0.1) c.if-x.true c.if-x-2.true in
    let last = c.args.last in
    c.least.ensures ∙ ap (λ (t : ℕ). min (t / 2 + t % 2) last) (c.truncating_f64_to_u64-twice.ensures ∙ r.2.2) ∙ r.3 last

pub truncating_f64_to_u64-whole-requires : goal.truncating_f64_to_u64-whole-requires
truncating_f64_to_u64-whole-requires c =
    let r = second _ (held _ c.well_formed.0.1) c.if-x.true c.if-x-2.false c.if-x-3.true in
    record { lower_bound = r.1.0; upper_bound = r.1.1 }

pub returns-then-x-3 : goal.returns-then-x-3
returns-then-x-3 c =
    let r = second _ (held _ c.well_formed.0.1) c.if-x.true c.if-x-2.false c.if-x-3.true in
    let last = c.args.last in
    c.least-then-x-3.ensures ∙ ap (λ (t : ℕ). min t last) (c.truncating_f64_to_u64-whole.ensures ∙ r.1.2) ∙ r.2 last

pub returns-then-x : goal.returns-then-x
returns-then-x c = third _ _ c.ranges.last.fits c.if-x.true c.if-x-3.false

pub returns : goal.returns
returns c = fourth _ _ c.if-x.false
