use mathlib.Core.Path.{refl, sym, ◌∙◌, ap}
use mathlib.Core.List.{List}
use Prim.Native.Nat.{ℕ, ◌+◌, ◌≤◌}
use native.Mathlib.Omega.{arith}
use lib.ListN.{length}
use Rattle.percentiles.specs.Percentiles.{percentile}
use Rattle.percentiles.specs.Fours.{put_four}
use Rattle.percentiles.proofs.Fours.{long_four, four_next}
use Rattle.percentiles.proofs.Values.{shown_all}
use Rattle.percentiles.proofs.show_exact.Goals as goal

pub loop-i-init : goal.loop-i-init
loop-i-init c =
    let p = c.requires in (p.3, p.3, refl)

pub show_four-requires : goal.show_four-requires
show_four-requires c =
    let p = c.requires in
    (p.0, p.1, p.2, c.loop-i.invariant.1, c.loop-i-test.true)

pub loop-i-preserved : goal.loop-i-preserved
loop-i-preserved c =
    let l = c.loop-i in
    let a = c.args in (
      l.invariant.0,
      ap (λ (s : List ℕ). length s) c.show_four.ensures ∙ long_four a.q a.room.now a.ps.now l.shown l.i ∙ l.invariant.1,
      c.show_four.ensures ∙ ap (λ (s : List ℕ). put_four a.q a.room.now a.ps.now s l.i) l.invariant.2
          ∙ four_next a.q a.room.now a.ps.now a.shown.now l.invariant.0 (omega (arith, c.loop-i-test.true)) l.i,
    )

pub shape_of-shown : goal.shape_of-shown
shape_of-shown c = c.loop-i.invariant.1 ∙ sym c.loop-i.invariant.0

pub returns : goal.returns
returns c =
    let a = c.args in
    c.loop-i.invariant.2 ∙ shown_all (percentile a.q a.room.now) a.ps.now a.shown.now c.loop-i.i c.loop-i-test.false c.loop-i.invariant.0

pub returns-2 : goal.returns-2
returns-2 c =
    let l = c.loop-i in
    let a = c.args in
    let last : length a.ps.now ≤ l.i + 4 = omega arith in
    c.show_four.ensures ∙ ap (λ (s : List ℕ). put_four a.q a.room.now a.ps.now s l.i) l.invariant.2
    ∙ four_next a.q a.room.now a.ps.now a.shown.now l.invariant.0 (omega (arith, c.loop-i-test.true)) l.i
    ∙ shown_all (percentile a.q a.room.now) a.ps.now a.shown.now (l.i + 4) last l.invariant.0
