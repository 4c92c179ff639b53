-- A call is served exactly where no test of the table fails, and a refusal is one of document 01's six numbers. Assumes nothing.
use mathlib.Core.Path.{◌≡◌, refl}
use mathlib.Core.Bool.{Bool, true, false}
use Prim.Native.Nat.{ℕ}
use native.Mathlib.Omega.{arith}
use Rattle.ledger_state.specs.Refusal.{first_refusal}

pub record Passed (placed ranged timely counted awaiting room : Bool) : Type 0 where
  pub placed_is : placed ≡ true
  pub ranged_is : ranged ≡ true
  pub timely_is : timely ≡ true
  pub counted_is : counted ≡ true
  pub awaiting_is : awaiting ≡ true
  pub room_is : room ≡ true

-- no refusal: every test holds
pub served : (a b c d e f : Bool) → first_refusal a b c d e f ≡ 0 → Passed a b c d e f
served false b c d e f h = absurd (omega (arith, h))
served true false c d e f h = absurd (omega (arith, h))
served true true false d e f h = absurd (omega (arith, h))
served true true true false e f h = absurd (omega (arith, h))
served true true true true false f h = absurd (omega (arith, h))
served true true true true true false h = absurd (omega (arith, h))
served true true true true true true h =
    record { placed_is = refl; ranged_is = refl; timely_is = refl; counted_is = refl; awaiting_is = refl; room_is = refl }

-- and the other way round
pub not_refused : (a b c d e f : Bool) → Passed a b c d e f → first_refusal a b c d e f ≡ 0
not_refused true true true true true true p = refl
not_refused false b c d e f p = absurd (let z : ◌≡◌ {A = ℕ} 0 1 = cc p.placed_is in omega arith)
not_refused true false c d e f p = absurd (let z : ◌≡◌ {A = ℕ} 0 1 = cc p.ranged_is in omega arith)
not_refused true true false d e f p = absurd (let z : ◌≡◌ {A = ℕ} 0 1 = cc p.timely_is in omega arith)
not_refused true true true false e f p = absurd (let z : ◌≡◌ {A = ℕ} 0 1 = cc p.counted_is in omega arith)
not_refused true true true true false f p = absurd (let z : ◌≡◌ {A = ℕ} 0 1 = cc p.awaiting_is in omega arith)
not_refused true true true true true false p = absurd (let z : ◌≡◌ {A = ℕ} 0 1 = cc p.room_is in omega arith)
