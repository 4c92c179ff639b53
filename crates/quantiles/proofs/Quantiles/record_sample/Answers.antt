use mathlib.Core.Path.{sym, ◌∙◌}
use Rattle.quantiles.specs.Record.{outcome}
use Rattle.quantiles.proofs.Ways.{crossed-by, way_size, way_crossed}
use Rattle.quantiles.proofs.Quantiles.record_sample.Goals as goal

pub returns-then-room-room_size : goal.returns-then-room-room_size
unfolding outcome
returns-then-room-room_size c =
    let a = c.args in
    way_size a.self a.room.now a.value (λ e. c.if-room-room_size.true (e ∙ sym c.room_size.ensures))

pub returns-then-above : goal.returns-then-above
unfolding outcome
returns-then-above c =
    let a = c.args in
    way_crossed a.self a.room.now a.value (c.if-room-room_size.false ∙ c.room_size.ensures)
    (crossed-by a.self _ c.requires.0 (sym c.above.ensures ∙ c.if-above.true))

pub add_sample-requires : goal.add_sample-requires
add_sample-requires c =
    let a = c.args in
    let p = c.requires in
    (c.if-room-room_size.false ∙ c.room_size.ensures, crossed-by a.self _ p.0 (sym c.above.ensures ∙ c.if-above.false), p.0, p.1)
