-- What the proofs of `error_seconds` and `reading` cite. Assumes nothing.
use mathlib.Core.Path.{◌≡◌, refl, ap}
use mathlib.Core.Bool.{false}
use Prim.Native.Nat.{ℕ, ◌+◌, ◌*◌, ◌^◌, ◌≤◌, ◌<◌}
use native.Mathlib.Nat.{zero-lt-suc, mul_right_comm}
use native.Mathlib.Omega.{arith}
use lib.IntN.{pos}
use lib.Dec.{lit≤}
use lib.Pow.{pow_pos}
use lib.Ieee.{Float, binary64, mul, of_int, of_bits}
use lib.Ieee.Exact.{HasValue}
use borrow.Author.Tests.{lt-ltb, le-leb}
use Rattle.floats.specs.Exact.{Exactly}
use Rattle.floats.proofs.Values.{whole_val, power_at, exact_product}
use Rattle.estimate.specs.declared.ErrorEstimate.{ErrorEstimate}
use Rattle.estimate.specs.declared.Reading.TheVariants.{Known}
use Rattle.estimate.specs.Error.{InMs}

pub seconds_val : (m s : ℕ) (p : Float) → m < 256 → s < 256 → HasValue p false (2 ^ (s + 991)) (2 ^ 1023) → Exactly (mul binary64 (of_int binary64 (pos m)) p) (m * 2 ^ s) (2 ^ 32)
seconds_val m s p M S h =
    exact_product (of_int binary64 (pos m)) p m 1 (2 ^ s) (2 ^ 32) m s 32 (zero-lt-suc 0) (pow_pos 32) (whole_val m (wide m M)) (power_at p (s + 991) s 32 (field s) h) refl refl (small m M) (omega arith) (lit≤ tt)
  where
    wide : (m : ℕ) → m < 256 → m ≤ 2 ^ 53
    wide m h = omega arith

    small : (m : ℕ) → m < 256 → m < 2 ^ 53
    small m h = omega arith

    field : (s : ℕ) → s + 991 + 32 ≡ s + 1023
    field s = omega arith

-- 1000.0 as MIR has it
thousand : HasValue (of_bits binary64 0x408f_4000_0000_0000) false 1000 1
unfolding of_bits
thousand = (refl, refl)

pub ms_val : (m s : ℕ) (x : Float) → m < 256 → s < 256 → Exactly x (m * 2 ^ s) (2 ^ 32) → Exactly (mul binary64 x (of_bits binary64 0x408f_4000_0000_0000)) (m * 1000 * 2 ^ s) (2 ^ 32)
ms_val m s x M S h =
    exact_product x (of_bits binary64 0x408f_4000_0000_0000) (m * 2 ^ s) (2 ^ 32) 1000 1 (m * 1000) s 32 (pow_pos 32) (zero-lt-suc 0) h.exact thousand (mul_right_comm m (2 ^ s) 1000) refl (small m M) (omega arith) (lit≤ tt)
  where
    small : (m : ℕ) → m < 256 → m * 1000 < 2 ^ 53
    small m h = omega arith

pub is_known : (e : ErrorEstimate) (x : Float) → (e.multiplier ≡ 0 → ⊥) → e.scale ≤ 63 → Exactly x (e.multiplier * 1000 * 2 ^ e.scale) (2 ^ 32) → InMs e (Known x)
is_known e x h k v = record { is = simp (lt-ltb 0 e.multiplier (omega arith), le-leb e.scale 63 k) (ap Known v.Only); exact = v }
