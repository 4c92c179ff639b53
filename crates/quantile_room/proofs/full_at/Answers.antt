use lib.ListN.{length}
use Rattle.quantile_room.proofs.Places.{total_in, bucket_full, block-full}
use Rattle.quantile_room.proofs.full_at.Goals as goal

pub returns-then-room-at : goal.returns-then-room-at
returns-then-room-at c =
    let a = c.args in
    let p = c.requires in
    let t = c.totals_start in
    bucket_full a.signed a.room.now a.place t.result p.0 p.1 t.ensures c.if-room-at.true

pub bounds-room-block : goal.bounds-room-block
bounds-room-block c =
    let a = c.args in
    let p = c.requires in
    let t = c.totals_start in
    total_in a.signed a.place t.result (length a.room.now) p.0 t.ensures p.1

pub returns : goal.returns
returns c =
    let a = c.args in
    let p = c.requires in
    let t = c.totals_start in
    block-full a.signed a.room.now a.place t.result p.0 p.1 t.ensures c.if-room-at.false
