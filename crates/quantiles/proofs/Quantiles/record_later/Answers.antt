use mathlib.Core.Path.{sym, ◌∙◌}
use Prim.Native.Nat.{ℕ, ◌<◌}
use native.Mathlib.Omega.{arith}
use Rattle.quantiles.specs.Record.{outcome}
use Rattle.quantiles.proofs.Ways.{crossed-by, way_size, way_crossed}
use Rattle.quantiles.proofs.Quantiles.record_later.Goals as goal

some : (n : ℕ) → 4096 < n → 0 < n
some n e = omega arith

pub returns-then-room-room_size : goal.returns-then-room-room_size
unfolding outcome
returns-then-room-room_size c =
    let a = c.args in
    way_size a.self a.room.now a.value (λ e. c.if-room-room_size.true (e ∙ sym c.room_size.ensures))

pub returns-then-above : goal.returns-then-above
unfolding outcome
returns-then-above c =
    let a = c.args in
    way_crossed a.self a.room.now a.value (c.if-room-room_size.false ∙ c.room_size.ensures)
    (crossed-by a.self _ (some a.self.count c.requires) (sym c.above.ensures ∙ c.if-above.true))

pub add_later-requires : goal.add_later-requires
add_later-requires c =
    let a = c.args in
    let p = c.requires in
    (c.if-room-room_size.false ∙ c.room_size.ensures, crossed-by a.self _ (some a.self.count (p)) (sym c.above.ensures ∙ c.if-above.false), p)
