-- What is put into a word is read back. Assumes nothing.
use mathlib.Core.Path.{◌≡◌, refl}
use mathlib.Core.Bool.{Bool, true, false}
use Prim.Native.Nat.{ℕ, ◌<◌, ◌^◌}
use native.Mathlib.Omega.{arith}
use lib.Dec.{T}
use lib.Ieee.{Float, fits, binary64, of_bits, to_bits}
use lib.Ieee.Bits.{of_bits-to_bits}
use Rattle.host_numbers.specs.Numbers.{lower, upper, joined, flag_word, is_set}

pub lower-joined : (first second : ℕ) → first < 2 ^ 32 → lower (joined first second) ≡ first
lower-joined first second h = omega arith

pub upper-joined : (first second : ℕ) → first < 2 ^ 32 → second < 2 ^ 32 → upper (joined first second) ≡ second
upper-joined first second h k = omega arith

pub joined-below : (first second : ℕ) → first < 2 ^ 32 → second < 2 ^ 32 → joined first second < 2 ^ 64
joined-below first second h k = omega arith

pub flag_again : (set : Bool) → is_set (flag_word set) ≡ set
flag_again true = refl
flag_again false = refl

-- of every f64, a NaN too
pub float_again : (x : Float) → T (fits binary64 x) → of_bits binary64 (to_bits binary64 x) ≡ x
float_again x h = of_bits-to_bits binary64 x h
