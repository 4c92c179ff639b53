use Rattle.std.proofs.Common.{length, sym, ◌∙◌, eq-eqb, ne_eqb}
use Rattle.quantiles.proofs.Ways.{of_value}
use Rattle.quantiles.specs.Record.{outcome}
use Rattle.series.proofs.Ways.{way_size, way_crossed, way_sums, way_full, way_left}
use Rattle.series.proofs.refused_beside.Goals as goal

pub returns-then-room-room_size : goal.returns-then-room-room_size
unfolding outcome
returns-then-room-room_size c =
    let a = c.args in
    way_size a.q a.room.now a.value (ne_eqb (length a.room.now) _ (λ e. c.if-room-room_size.true (e ∙ sym c.room_size.ensures)))

pub returns-then-min_above_max : goal.returns-then-min_above_max
unfolding outcome
returns-then-min_above_max c =
    let a = c.args in
    way_crossed a.q a.room.now a.value (eq-eqb (length a.room.now) _ (c.if-room-room_size.false ∙ c.room_size.ensures)) (sym c.min_above_max.ensures ∙ c.if-min_above_max.true)

pub returns-then-q-le4096 : goal.returns-then-q-le4096
unfolding outcome
returns-then-q-le4096 c =
    let a = c.args in
    way_sums a.q a.room.now a.value c.if-q-le4096.true (eq-eqb (length a.room.now) _ (c.if-room-room_size.false ∙ c.room_size.ensures)) (sym c.min_above_max.ensures ∙ c.if-min_above_max.false)

pub full_at-requires : goal.full_at-requires
full_at-requires c = (c.if-room-room_size.false ∙ c.room_size.ensures, c.bucket_of-place.ensures.1)

pub returns-then-full_at : goal.returns-then-full_at
unfolding outcome
returns-then-full_at c =
    let a = c.args in
    let k = c.bucket_of-place in
    let f = c.full_at in
    way_full a.q a.room.now a.value (eq-eqb _ _ (c.if-room-room_size.false ∙ c.room_size.ensures)) (sym c.min_above_max.ensures ∙ c.if-min_above_max.false) c.if-q-le4096.false
    (of_value a.q.signed a.room.now a.value k.result f.result k.ensures.0 f.ensures ∙ c.if-full_at.true)

pub returns : goal.returns
unfolding outcome
returns c =
    let a = c.args in
    let k = c.bucket_of-place in
    let f = c.full_at in
    way_left a.q a.room.now a.value (eq-eqb _ _ (c.if-room-room_size.false ∙ c.room_size.ensures)) (sym c.min_above_max.ensures ∙ c.if-min_above_max.false) c.if-q-le4096.false
    (of_value a.q.signed a.room.now a.value k.result f.result k.ensures.0 f.ensures ∙ c.if-full_at.false)
