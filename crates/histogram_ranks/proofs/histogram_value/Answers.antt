use mathlib.Core.Path.{◌∙◌, ap}
use Prim.Native.Nat.{ℕ}
use Rattle.buckets.specs.Signed.{value_of}
use Rattle.histogram_ranks.specs.Ranks.{clamped}
use Rattle.histogram_ranks.proofs.Values.{shows_min, shows_max, shows_bucket}
use Rattle.histogram_ranks.proofs.histogram_value.Goals as goal

pub returns-then-rank-eq0 : goal.returns-then-rank-eq0
returns-then-rank-eq0 c =
    let a = c.args in
    shows_min a.q a.room.now a.rank c.if-rank-eq0.true

pub returns-then-rank-q : goal.returns-then-rank-q
returns-then-rank-q c =
    let a = c.args in
    shows_max a.q a.room.now a.rank c.if-rank-eq0.false c.if-rank-q.true

pub returns : goal.returns
returns c =
    let a = c.args in
    c.clamp.ensures
    ∙ ap (λ (x : ℕ). clamped a.q.signed x a.q.min a.q.max) (c.shown_by.ensures ∙ ap (value_of a.q.signed) c.place_of-place.ensures.0)
    ∙ shows_bucket a.q a.room.now a.rank c.if-rank-eq0.false c.if-rank-q.false
