use mathlib.Core.Path.{refl, sym, ◌∙◌, ap, subst}
use lib.Ieee.{nan}
use mathlib.Core.List.{List}
use Prim.Native.Nat.{ℕ, ◌<◌}
use native.Mathlib.Omega.{arith}
use lib.ListN.{get_or, set, length-set}
use Rattle.rank.specs.Rank.{rank_below}
use Rattle.histogram_ranks.specs.Ranks.{block_at, lies}
use Rattle.percentiles.specs.Percentiles.{percentile}
use Rattle.percentiles.proofs.Lies.{unspoilt_sum, unspoilt_blocks, none-lies}
use Rattle.percentiles.proofs.Values.{shows_histogram, shown-next, shown_all, percentile_is}
use Rattle.percentiles.proofs.show_buckets.Goals as goal

pub loop-i-init : goal.loop-i-init
loop-i-init c =
    let p = c.requires in (p.3, p.3, refl)

pub histogram_value-requires : goal.histogram_value-requires
histogram_value-requires c =
    let a = c.args in
    let p = c.requires in
    let i = c.loop-i.i in (
      p.0,
      unspoilt_sum a.q a.room.now a.ps.now p.2,
      subst (λ (r : ℕ). r < a.q.count) (sym c.rank.ensures) (rank_below (get_or a.ps.now i nan) a.q.count (omega (arith, p.1))),
      ap (λ (r : ℕ). lies a.q.signed a.room.now (block_at a.q a.room.now r)) c.rank.ensures
          ∙ none-lies a.q a.room.now a.ps.now nan i (unspoilt_blocks a.q a.room.now a.ps.now p.2) c.loop-i-test.true,
    )

pub bounds-shown-i : goal.bounds-shown-i
bounds-shown-i c = omega (arith, c.loop-i.invariant.1, c.loop-i-test.true)

pub loop-i-preserved : goal.loop-i-preserved
loop-i-preserved c =
    let l = c.loop-i in
    let a = c.args in
    let t = c.loop-i-test.true in (
      l.invariant.0,
      length-set l.shown l.i c.histogram_value.result ∙ l.invariant.1,
      ap (λ (s : List ℕ). set s l.i c.histogram_value.result) l.invariant.2
          ∙ shown-next (percentile a.q a.room.now) a.ps.now nan a.shown.now l.i c.histogram_value.result t l.invariant.0
          (percentile_is a.q a.room.now (get_or a.ps.now l.i nan) c.rank.result c.histogram_value.result c.rank.ensures (c.histogram_value.ensures ∙ shows_histogram a.q a.room.now c.rank.result c.requires.1)),
    )

pub shape_of-shown : goal.shape_of-shown
shape_of-shown c = c.loop-i.invariant.1 ∙ sym c.loop-i.invariant.0

pub returns : goal.returns
returns c =
    let a = c.args in
    c.loop-i.invariant.2 ∙ shown_all (percentile a.q a.room.now) a.ps.now a.shown.now c.loop-i.i c.loop-i-test.false c.loop-i.invariant.0
