-- A choice whose test is known. Assumes nothing.
use mathlib.Core.Path.{◌≡◌, sym, ap}
use mathlib.Core.Bool.{Bool, true, false}
use Prim.Native.Nat.{ℕ}
use Rattle.probe_queue.specs.Queue.{choose}

pub chosen : (t : Bool) (x y : ℕ) → t ≡ true → x ≡ choose t x y
chosen t x y e = sym (ap (λ (u : Bool). choose u x y) e)

pub passed : (t : Bool) (x y : ℕ) → t ≡ false → y ≡ choose t x y
passed t x y e = sym (ap (λ (u : Bool). choose u x y) e)
