use mathlib.Core.Path.{sym, ◌∙◌, ap}
use mathlib.Core.List.{List}
use Prim.Native.Nat.{ℕ}
use Rattle.std.specs.Prelude.{true, Ok}
use Rattle.percentiles.specs.Percentiles.{outcome}
use Rattle.percentiles.proofs.Ways.{way_size, way_answer, way_crossed, way_empty, way_exact}
use Rattle.percentiles.proofs.percentiles.Goals as goal

pub returns-then-room-room_size : goal.returns-then-room-room_size
returns-then-room-room_size c =
    let a = c.args in
    way_size a.q a.room.now a.ps.now a.shown.now (λ e. c.if-room-room_size.true (e ∙ sym c.room_size.ensures))

pub returns-then-shown-ps : goal.returns-then-shown-ps
returns-then-shown-ps c =
    let a = c.args in
    way_answer a.q a.room.now a.ps.now a.shown.now (c.if-room-room_size.false ∙ c.room_size.ensures) c.if-shown-ps.true

pub returns-then-min_above_max : goal.returns-then-min_above_max
returns-then-min_above_max c =
    let a = c.args in
    way_crossed a.q a.room.now a.ps.now a.shown.now (c.if-room-room_size.false ∙ c.room_size.ensures) c.if-shown-ps.false (sym c.min_above_max.ensures ∙ c.if-min_above_max.true)

pub show_histogram-requires : goal.show_histogram-requires
show_histogram-requires c =
    (c.if-room-room_size.false ∙ c.room_size.ensures, c.if-shown-ps.false, sym c.min_above_max.ensures ∙ c.if-min_above_max.false, c.if-q-gt4096.true)

pub returns-then-q-eq0 : goal.returns-then-q-eq0
returns-then-q-eq0 c =
    let a = c.args in
    way_empty a.q a.room.now a.ps.now a.shown.now (c.if-room-room_size.false ∙ c.room_size.ensures) c.if-shown-ps.false (sym c.min_above_max.ensures ∙ c.if-min_above_max.false) c.if-q-gt4096.false c.if-q-eq0.true

pub returns : goal.returns
returns c =
    let a = c.args in
    ap (λ (l : List ℕ). outcome (Ok true) l) c.show_exact.ensures
    ∙ way_exact a.q a.room.now a.ps.now a.shown.now (c.if-room-room_size.false ∙ c.room_size.ensures) c.if-shown-ps.false (sym c.min_above_max.ensures ∙ c.if-min_above_max.false) c.if-q-gt4096.false c.if-q-eq0.false
