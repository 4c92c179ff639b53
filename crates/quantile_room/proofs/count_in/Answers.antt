use mathlib.Core.Path.{◌≡◌, sym, ◌∙◌, ap}
use mathlib.Core.Bool.{Bool}
use mathlib.Core.List.{List}
use Prim.Native.Nat.{ℕ, ◌+◌, ◌/◌, ◌<◌}
use native.Mathlib.Omega.{arith}
use lib.ListN.{length, get_or, set, length-set}
use lib.Seq.{get_or-set_other}
use Rattle.buckets.specs.Signed.{bucket_count}
use Rattle.quantile_room.specs.Room.{totals}
use Rattle.quantile_room.proofs.Parts.{counted_in}
use Rattle.quantile_room.proofs.Places.{parts_in, total_in, bucket_is, total_is, bucket_left, block-left, up}
use borrow.Author.Rules.{rules}
use Rattle.quantile_room.proofs.count_in.Goals as goal

-- the total's word lies behind the bucket's, so that it is not the one that was written
module _ (s : Bool) (room : List ℕ) (place start : ℕ) (e : start ≡ 4096 + bucket_count s) (l : place < bucket_count s) (x : ℕ) where
  kept : get_or (set room (4096 + place) x) (start + place / 128) 0 ≡ get_or room (start + place / 128) 0
  kept = get_or-set_other room (4096 + place) (start + place / 128) x 0 (behind place start (place / 128) (bucket_count s) e l)
    where
      behind : (place start j n : ℕ) → start ≡ 4096 + n → place < n → start + j ≡ 4096 + place → ⊥
      behind place start j n e l q = omega arith

pub overflow_add-room : goal.overflow_add-room
overflow_add-room c =
    let a = c.args in
    let p = c.requires in
    let t = c.totals_start in
    record { fits = up _ _ (bucket_is a.signed a.room.now a.place t.result p.0 p.1 t.ensures) (search rules) (bucket_left a.signed a.room.now a.place p.2) }

pub bounds-room-block : goal.bounds-room-block
bounds-room-block c =
    let a = c.args in
    let p = c.requires in
    total_in a.signed a.place c.totals_start.result (length (set a.room.now (4096 + a.place) (get_or a.room.now (4096 + a.place) 0 + 1)))
    (length-set a.room.now (4096 + a.place) (get_or a.room.now (4096 + a.place) 0 + 1) ∙ p.0) c.totals_start.ensures p.1

pub overflow_add-room-2 : goal.overflow_add-room-2
overflow_add-room-2 c =
    let a = c.args in
    let p = c.requires in
    let t = c.totals_start in
    let k = kept a.signed a.room.now a.place t.result t.ensures p.1 (get_or a.room.now (4096 + a.place) 0 + 1) in
    record { fits = up _ _ (total_is a.signed a.room.now a.place t.result p.0 p.1 t.ensures ∙ sym k) (search rules) (block-left a.signed a.room.now a.place p.2) }

pub bounds-room-block-2 : goal.bounds-room-block-2
bounds-room-block-2 c =
    let a = c.args in
    let p = c.requires in
    total_in a.signed a.place c.totals_start.result (length (set a.room.now (4096 + a.place) (get_or a.room.now (4096 + a.place) 0 + 1)))
    (length-set a.room.now (4096 + a.place) (get_or a.room.now (4096 + a.place) 0 + 1) ∙ p.0) c.totals_start.ensures p.1

pub returns : goal.returns
returns c =
    let a = c.args in
    let p = c.requires in
    let t = c.totals_start in
    let x = get_or a.room.now (4096 + a.place) 0 + 1 in
    ap (λ (y : ℕ). set (set a.room.now (4096 + a.place) x) (t.result + a.place / 128) (y + 1)) (kept a.signed a.room.now a.place t.result t.ensures p.1 x)
    ∙ counted_in 4096 (bucket_count a.signed) a.room.now (parts_in a.signed (length a.room.now) p.0) t.result a.place (a.place / 128) t.ensures p.1
