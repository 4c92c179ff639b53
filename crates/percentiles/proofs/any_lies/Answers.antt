use mathlib.Core.Path.{sym, ◌∙◌, ap, subst}
use Prim.Native.Nat.{ℕ, ◌<◌}
use native.Mathlib.Omega.{arith}
use lib.ListN.{get_or}
use lib.Ieee.{nan}
use Rattle.rank.specs.Rank.{rank_below}
use Rattle.histogram_ranks.specs.Ranks.{block_at, lies}
use Rattle.percentiles.proofs.Lies.{next-lies, next_true, none_left}
use Rattle.percentiles.proofs.any_lies.Goals as goal

pub rank_lies-requires : goal.rank_lies-requires
rank_lies-requires c =
    let a = c.args in
    let p = c.requires in
    (p.0, p.1, subst (λ (r : ℕ). r < a.q.count) (sym c.rank.ensures) (rank_below (get_or a.ps.now c.loop-p.p-index nan) a.q.count (omega (arith, p.2))))

pub returns-then-rank_lies : goal.returns-then-rank_lies
returns-then-rank_lies c =
    let a = c.args in
    let l = c.loop-p in
    sym (sym l.invariant ∙ next-lies a.q a.room.now a.ps.now nan l.p-index c.loop-p-test.true (sym (c.rank_lies.ensures ∙ ap (λ (r : ℕ). lies a.q.signed a.room.now (block_at a.q a.room.now r)) c.rank.ensures) ∙ c.if-rank_lies.true))

pub loop-p-preserved : goal.loop-p-preserved
loop-p-preserved c =
    let a = c.args in
    let l = c.loop-p in
    next_true a.q a.room.now a.ps.now nan l.p-index c.loop-p-test.true (sym (c.rank_lies.ensures ∙ ap (λ (r : ℕ). lies a.q.signed a.room.now (block_at a.q a.room.now r)) c.rank.ensures) ∙ c.if-rank_lies.false) ∙ l.invariant

pub returns : goal.returns
returns c =
    let a = c.args in
    sym (sym c.loop-p.invariant ∙ none_left a.q a.room.now a.ps.now c.loop-p.p-index c.loop-p-test.false)
