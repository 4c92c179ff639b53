use mathlib.Core.Path.{sym, ap, ◌∙◌}
use mathlib.Core.Bool.{true}
use Prim.Native.Nat.{ℕ}
use lib.IntN.{pos, ◌+ℤ◌}
use Rattle.floats.specs.Whole.{magnitude, signed}
use Rattle.delays.specs.Sums.{sum_of}
use Rattle.round_trips.proofs.Steps.{low_stays, wide, borrows}
use Rattle.round_trips.proofs.nearer.Goals as goal

pub returns-then-high-eq0 : goal.returns-then-high-eq0
returns-then-high-eq0 c =
    let s = c.before.before in
    let a = s.args in
    c.small_nearer.ensures ∙ ap (λ (h : ℕ). sum_of (signed true (magnitude h a.low) +ℤ pos a.ns)) (sym c.if-high-eq0.true)

pub returns-then-ns-low : goal.returns-then-ns-low
returns-then-ns-low c =
    let s = c.before.before in
    let a = s.args in
    low_stays a.high a.low a.ns s.ranges.low.fits c.if-ns-low.true (wide a.high a.low a.ns s.ranges.ns.fits c.if-high-eq0.false)

pub returns : goal.returns
returns c =
    let s = c.before.before in
    let a = s.args in
    borrows a.high a.low a.ns s.ranges.ns.fits c.if-high-eq0.false c.if-ns-low.false
