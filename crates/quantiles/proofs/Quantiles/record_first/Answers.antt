use mathlib.Core.Path.{◌≡◌, sym, ◌∙◌, ap}
use mathlib.Core.Bool.{Bool}
use Prim.Native.Nat.{ℕ, ◌<◌}
use native.Mathlib.Omega.{arith}
use lib.ListN.{length, set}
use Rattle.quantile_room.specs.Room.{room_size}
use Rattle.quantiles.specs.declared.Quantiles.{Quantiles}
use Rattle.quantiles.specs.Record.{outcome, taken}
use Rattle.quantiles.proofs.Ways.{grown-first, never_crossed, way_size, way_exact}
use Rattle.quantiles.proofs.Quantiles.record_first.Goals as goal

few : (n : ℕ) → n ≡ 0 → n < 4096
few n e = omega arith

inside : (n : ℕ) (s : Bool) → n ≡ room_size s → 0 < n
inside n s e = omega arith

pub returns-then-room-room_size : goal.returns-then-room-room_size
unfolding outcome
returns-then-room-room_size c =
    let a = c.args in
    way_size a.self a.room.now a.value (λ e. c.if-room-room_size.true (e ∙ sym c.room_size.ensures))

pub put_sample-requires : goal.put_sample-requires
put_sample-requires c = inside (length c.args.room.now) c.args.self.signed (c.if-room-room_size.false ∙ c.room_size.ensures)

pub returns : goal.returns
unfolding outcome
returns c =
    let a = c.args in
    let p = c.requires in
    let next : Quantiles = record { signed = a.self.signed; count = 1; min = a.value; max = a.value } in
    ap (taken next) c.put_sample.ensures ∙ ap (λ (k : ℕ). taken next (set a.room.now k a.value)) (sym p)
    ∙ way_exact a.self a.room.now a.value next (c.if-room-room_size.false ∙ c.room_size.ensures) (never_crossed a.self p) (few a.self.count p) (grown-first a.self a.value p)
