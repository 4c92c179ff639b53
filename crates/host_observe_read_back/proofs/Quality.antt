-- A clock quality is read back from its words: as any words say it, and after any sample. Assumes nothing.
use Rattle.std.specs.Prelude.{Option, Some, None}
use mathlib.Core.Path.{◌≡◌, refl}
use mathlib.Core.Bool.{Bool, true, false, cond}
use mathlib.Core.List.{List}
use Prim.Native.Nat.{ℕ, ◌+◌, ◌*◌, ◌/◌, ◌%◌, ◌^◌, ◌<◌}
use native.Mathlib.Omega.{arith}
use lib.Dec.{T, eqb}
use lib.Ieee.{Float, fits, binary64, of_bits, add, le}
use lib.Ieee.Bits.{of_bits-fits}
use lib.Ieee.Fits.{round-fits, add-fits, cond-fits}
use lib.ListN.{get_or}
use Rattle.estimate.specs.declared.Reading.{Reading}
use Rattle.estimate.specs.declared.Reading.TheVariants.{Known, Invalid}
use Rattle.estimate.specs.declared.ErrorEstimate.{ErrorEstimate}
use Rattle.estimate.specs.Error.{known_if, error_known, reading_of}
use Rattle.estimate.specs.Wire as wire
use Rattle.clock_quality.specs.declared.ClockEstimate.{ClockEstimate}
use Rattle.clock_quality.specs.declared.ClockQuality.{ClockQuality}
use Rattle.clock_quality.specs.Quality as quality
use Rattle.follow_ups.specs.Followed.{estimates_of}
use Rattle.host_numbers.specs.Numbers.{is_set}
use Rattle.host_quality.specs.Words.{error_of, estimate_of, last_of, largest_of, quality_at, ErrorKept, LastKept, LargestKept, QualityKept}
use Rattle.host_quality.proofs.Back.{wire_below, wire_kept, error_again, last_again, largest_again, quality_again}

-- ---- what the types of its parts say

abbrev pub ErrorFits : Reading → Type 0
ErrorFits (Known x) = T (fits binary64 x)
ErrorFits (Invalid bits) = bits < 65536

pub record EstimateFits (e : ClockEstimate) : Type 0 where
  pub scale_in : e.scale < 256
  pub multiplier_in : e.multiplier < 256
  pub error_in : ErrorFits e.error

abbrev pub LastFits : Option ClockEstimate → Type 0
LastFits None = Unit
LastFits (Some e) = EstimateFits e

abbrev pub LargestFits : Option Float → Type 0
LargestFits None = Unit
LargestFits (Some x) = T (fits binary64 x)

pub record QualityFits (q : ClockQuality) : Type 0 where
  pub largest_in : LargestFits q.largest
  pub sender_in : LastFits q.sender
  pub reflector_in : LastFits q.reflector

-- ---- such a clock quality is read back

error_kept : (e : Reading) → ErrorFits e → ErrorKept e
error_kept (Known x) h = error_again x h
error_kept (Invalid bits) h = wire_kept bits h

last-kept : (l : Option ClockEstimate) → LastFits l → LastKept l
last-kept None h = refl
last-kept (Some e) h = last_again e h.scale_in h.multiplier_in (error_kept e.error h.error_in)

largest-kept : (l : Option Float) → LargestFits l → LargestKept l
largest-kept None h = refl
largest-kept (Some x) h = largest_again x h

pub quality-kept : (q : ClockQuality) → QualityFits q → QualityKept q
quality-kept q h = quality_again q (largest-kept q.largest h.largest_in) (last-kept q.sender h.sender_in) (last-kept q.reflector h.reflector_in)

-- ---- any words say such a clock quality

in_byte : (n : ℕ) → n % 256 < 256
in_byte n = omega arith

error_by : (known : Bool) (bits : ℕ) → ErrorFits (error_of known bits)
error_by true bits = of_bits-fits binary64 bits
error_by false bits = omega arith

estimate_by : (word bits : ℕ) → EstimateFits (estimate_of word bits)
unfolding estimate_of
estimate_by word bits = record { scale_in = in_byte _; multiplier_in = in_byte _; error_in = error_by (eqb (word / 8 % 2) 1) bits }

last-by : (b : Bool) (word bits : ℕ) → LastFits (cond b (Some (estimate_of word bits)) None)
last-by true word bits = estimate_by word bits
last-by false word bits = tt

largest-by : (b : Bool) (bits : ℕ) → LargestFits (cond b (Some (of_bits binary64 bits)) None)
largest-by true bits = of_bits-fits binary64 bits
largest-by false bits = tt

pub quality-fits : (at : ℕ) (w : List ℕ) → QualityFits (quality_at at w)
unfolding quality_at
quality-fits at w = record {
  largest_in = largest-by (is_set (get_or w (at + 8) 0)) (get_or w (at + 9) 0);
  sender_in = last-by (is_set (get_or w (at + 10) 0)) (get_or w (at + 10) 0) (get_or w (at + 11) 0);
  reflector_in = last-by (is_set (get_or w (at + 12) 0)) (get_or w (at + 12) 0) (get_or w (at + 13) 0);
}

-- ---- and a sample keeps it so, whatever the wires of its record

known_by : (b : Bool) (x : Float) (bits : ℕ) → T (fits binary64 x) → bits < 65536 → ErrorFits (known_if b x bits)
known_by true x bits h k = h
known_by false x bits h k = k

wire_fits : (w : ℕ) → EstimateFits (quality.clock_estimate_of (wire.estimate_of w))
wire_fits w =
    let e = wire.estimate_of w in
    record {
      scale_in = in_six (w / 256);
      multiplier_in = in_byte w;
      error_in = known_by (error_known e) _ _ (round-fits binary64 false (e.multiplier * 1000 * 2 ^ e.scale) (2 ^ 32)) (wire_below e (in_byte w));
    }
  where
    in_six : (n : ℕ) → n % 64 < 256
    in_six n = omega arith

larger-fits : (l : Option Float) (x : Float) → LargestFits l → T (fits binary64 x) → LargestFits (quality.larger_of l x)
larger-fits None x h k = k
larger-fits (Some most) x h k = cond-fits binary64 (le x most) most x h k

largest-after : (l : Option Float) (a b : Reading) → LargestFits l → LargestFits (quality.largest_of l a b)
largest-after l (Known x) (Known y) h = larger-fits l (add binary64 x y) h (add-fits binary64 x y)
largest-after l (Known x) (Invalid v) h = h
largest-after l (Invalid v) b h = h

pub sample_fits : (q : ClockQuality) (x : Option (ℕ × ℕ)) → QualityFits q → QualityFits (quality.recorded_of q (estimates_of x))
sample_fits q None h = record { largest_in = h.largest_in; sender_in = tt; reflector_in = tt }
sample_fits q (Some (s, r)) h =
    let a = wire_fits s in
    let b = wire_fits r in
    record {
      largest_in = largest-after q.largest (reading_of (wire.estimate_of s)) (reading_of (wire.estimate_of r)) h.largest_in;
      sender_in = a;
      reflector_in = b;
    }
