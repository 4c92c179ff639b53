use mathlib.Core.Path.{sym, subst}
use mathlib.Core.List.{List}
use Prim.Native.Nat.{ℕ}
use native.Mathlib.Omega.{arith}
use lib.ListN.{get_or}
use Rattle.exact_rank.specs.Rank.{Ranks}
use Rattle.percentiles.proofs.Fours.{four_below, four_put, long_three}
use Rattle.percentiles.proofs.show_four.Goals as goal

pub exact_four-four-requires : goal.exact_four-four-requires
exact_four-four-requires c =
    let a = c.args in
    let p = c.requires in
    (p.0, subst (λ (l : List ℕ). Ranks l a.q.count) (sym c.four_ranks-ranks.ensures) (four_below a.ps.now a.q.count a.i p.2))

pub bounds-shown-fourth : goal.bounds-shown-fourth
bounds-shown-fourth c =
    let a = c.args in
    let v = c.exact_four-four.result in
    omega (arith, long_three a.shown.now c.or_last-first.result c.or_last-second.result c.or_last-third.result (get_or v 0 0) (get_or v 1 0) (get_or v 2 0), c.requires.3, c.or_last-fourth.ensures.1)

pub returns : goal.returns
returns c =
    let a = c.args in
    four_put a.q a.room.now a.ps.now a.shown.now a.i c.or_last-first.result c.or_last-second.result c.or_last-third.result c.or_last-fourth.result
    c.four_ranks-ranks.result c.exact_four-four.result c.requires.1
    c.or_last-first.ensures.0 c.or_last-second.ensures.0 c.or_last-third.ensures.0 c.or_last-fourth.ensures.0
    c.four_ranks-ranks.ensures c.exact_four-four.ensures
