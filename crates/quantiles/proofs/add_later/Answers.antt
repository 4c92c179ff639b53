use mathlib.Core.Path.{◌≡◌, sym, ◌∙◌, ap}
use mathlib.Core.Bool.{false}
use mathlib.Core.List.{◌++◌}
use Prim.Native.Nat.{ℕ, ◌/◌}
use Rattle.buckets.specs.Signed.{index_of}
use Rattle.histogram.specs.Histogram.{bumped}
use Rattle.quantile_room.specs.Room.{samples, buckets, totals, full_at}
use Rattle.quantile_room.proofs.Places.{bucket_left, block-left}
use Rattle.quantiles.specs.Record.{outcome, taken}
use Rattle.quantiles.proofs.Ways.{of_value, way_passes, way_full, way_later}
use Rattle.quantiles.proofs.add_later.Goals as goal

pub full_at-requires : goal.full_at-requires
full_at-requires c = (c.requires.0, c.bucket_of-place.ensures.1)

pub returns-then-full_at : goal.returns-then-full_at
unfolding outcome
returns-then-full_at c =
    let a = c.args in
    let p = c.requires in
    let s = a.q.signed in
    let room = a.room.now in
    let k = c.bucket_of-place in
    let f = c.full_at in
    way_passes a.q room a.value p.0 p.1 p.2 (of_value s room a.value k.result f.result k.ensures.0 f.ensures ∙ c.if-full_at.true)

pub returns-then-q-eq-MOST : goal.returns-then-q-eq-MOST
unfolding outcome
returns-then-q-eq-MOST c =
    let a = c.args in
    let p = c.requires in
    let s = a.q.signed in
    let room = a.room.now in
    let k = c.bucket_of-place in
    let f = c.full_at in
    let left : full_at s room (index_of s a.value) ≡ false = of_value s room a.value k.result f.result k.ensures.0 f.ensures ∙ c.if-full_at.false in
    way_full a.q room a.value p.0 p.1 p.2 (bucket_left s room (index_of s a.value) left) (block-left s room (index_of s a.value) left) c.if-q-eq-MOST.true

pub count_in-requires : goal.count_in-requires
count_in-requires c = (c.requires.0, c.bucket_of-place.ensures.1, sym c.full_at.ensures ∙ c.if-full_at.false)

pub returns : goal.returns
unfolding outcome
returns c =
    let a = c.args in
    let p = c.requires in
    let s = a.q.signed in
    let room = a.room.now in
    let k = c.bucket_of-place in
    let f = c.full_at in
    let left : full_at s room (index_of s a.value) ≡ false = of_value s room a.value k.result f.result k.ensures.0 f.ensures ∙ c.if-full_at.false in
    ap (taken c.grow.result) (c.count_in.ensures ∙ ap (λ (i : ℕ). samples room ++ (bumped (buckets s room) i ++ bumped (totals s room) (i / 128))) k.ensures.0)
    ∙ way_later a.q room a.value c.grow.result p.0 p.1 p.2 (bucket_left s room (index_of s a.value) left) (block-left s room (index_of s a.value) left) c.if-q-eq-MOST.false c.grow.ensures
