use mathlib.Core.Path.{◌≡◌, sym, ◌∙◌, ap}
use mathlib.Core.Bool.{false}
use mathlib.Core.List.{◌++◌}
use Prim.Native.Nat.{ℕ, ◌/◌, ◌<◌}
use native.Mathlib.Omega.{arith}
use Rattle.buckets.specs.Signed.{index_of}
use Rattle.histogram.specs.Histogram.{bumped}
use Rattle.quantile_room.specs.Room.{samples, buckets, totals, full_at}
use Rattle.quantile_room.proofs.Places.{bucket_left, block-left}
use Rattle.quantiles.specs.Record.{taken}
use Rattle.quantiles.specs.Between.{one_more}
use Rattle.quantiles.proofs.Ways.{of_value}
use Rattle.quantiles.proofs.Between.{between_later}
use Rattle.quantiles.proofs.try_later.Goals as goal

some : (n : ℕ) → 4096 < n → 0 < n
some n h = omega arith

pub full_at-requires : goal.full_at-requires
full_at-requires c = (c.if-room-room_size.false ∙ c.room_size.ensures, c.bucket_of-place.ensures.1)

pub count_in-requires : goal.count_in-requires
count_in-requires c =
    (c.if-room-room_size.false ∙ c.room_size.ensures, c.bucket_of-place.ensures.1, sym c.full_at.ensures ∙ c.if-full_at.false)

pub returns : goal.returns
returns c =
    let a = c.args in
    let p = c.requires in
    let s = a.q.signed in
    let room = a.room.now in
    let k = c.bucket_of-place in
    let left : full_at s room (index_of s a.value) ≡ false = of_value s room a.value k.result c.full_at.result k.ensures.0 c.full_at.ensures ∙ c.if-full_at.false in (
      p.2,
      ap (taken (one_more a.q)) (c.count_in.ensures ∙ ap (λ (i : ℕ). samples room ++ (bumped (buckets s room) i ++ bumped (totals s room) (i / 128))) k.ensures.0)
          ∙ between_later a.q a.value p.0 (some a.q.count p.1) room (c.if-room-room_size.false ∙ c.room_size.ensures) p.1
          (bucket_left s room (index_of s a.value) left) (block-left s room (index_of s a.value) left) p.2,
    )
