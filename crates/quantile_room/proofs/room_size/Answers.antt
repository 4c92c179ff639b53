use mathlib.Core.Path.{◌≡◌, refl, sym, subst}
use mathlib.Core.Bool.{Bool}
use Prim.Native.Nat.{ℕ}
use Rattle.quantile_room.specs.Room.{room_size}
use Rattle.quantile_room.proofs.room_size.Goals as goal

pub returns-then-signed : goal.returns-then-signed
returns-then-signed c = subst (λ (s : Bool). ◌≡◌ {A = ℕ} 18804 (room_size s)) (sym c.if-signed.true) refl

pub returns-else-signed : goal.returns-else-signed
returns-else-signed c = subst (λ (s : Bool). ◌≡◌ {A = ℕ} 11578 (room_size s)) (sym c.if-signed.false) refl
