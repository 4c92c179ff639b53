-- A choice whose test is known, and tests put together.
-- Assumes nothing.
use mathlib.Core.Path.{◌≡◌, refl, sym, ap}
use mathlib.Core.Bool.{Bool, true, false, ◌&&◌, ◌||◌}
use Rattle.probe_queue.specs.Queue.{choose}

pub chosen : {X : Type 0} (t : Bool) (x y : X) → t ≡ true → x ≡ choose t x y
chosen t x y e = sym (ap (λ (u : Bool). choose u x y) e)

pub passed : {X : Type 0} (t : Bool) (x y : X) → t ≡ false → y ≡ choose t x y
passed t x y e = sym (ap (λ (u : Bool). choose u x y) e)

pub or_left : (a b : Bool) → a ≡ true → a || b ≡ true
or_left a b e = ap (λ (u : Bool). u || b) e

pub or_right : (a b : Bool) → a ≡ false → a || b ≡ b
or_right a b e = ap (λ (u : Bool). u || b) e

pub or_neither : (a b : Bool) → a || b ≡ false → (a ≡ false) × (b ≡ false)
or_neither true b e = absurd_true e
  where
    absurd_true : true ≡ false → (true ≡ false) × (b ≡ false)
    absurd_true h = (h, cc)
or_neither false b e = (refl, e)

pub and_both : (a b : Bool) → a && b ≡ true → (a ≡ true) × (b ≡ true)
and_both true b e = (refl, e)
and_both false b e = (e, cc)

pub and_left : (a b : Bool) → a ≡ true → a && b ≡ b
and_left a b e = ap (λ (u : Bool). u && b) e

pub and_none : (a b : Bool) → a ≡ false → a && b ≡ false
and_none a b e = ap (λ (u : Bool). u && b) e
