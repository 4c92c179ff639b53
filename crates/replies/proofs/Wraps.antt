-- What `wrapping_sub_u32` ensures is the step modulo 2^32. Assumes nothing.
use mathlib.Core.Path.{◌≡◌}
use Prim.Native.Nat.{ℕ, ◌+◌, ◌-◌, ◌%◌, ◌^◌, ◌<◌}
use native.Mathlib.Omega.{arith}
use Rattle.replies.specs.Served.{step_from}

pub wraps_is : (a b r : ℕ) → a < 2 ^ 32 → b < 2 ^ 32 → r < 2 ^ 32 → (r + a) % 2 ^ 32 ≡ b → r ≡ step_from a b
unfolding step_from
wraps_is a b r ha hb hr e = omega arith
