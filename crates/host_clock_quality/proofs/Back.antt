-- What a call leaves in the words is what the next call reads, and a refusal changes nothing. Assumes nothing.
use Rattle.std.specs.Prelude.{Some, None, Err}
use mathlib.Core.Path.{◌≡◌, refl, ap, ◌∙◌}
use mathlib.Core.Bool.{Bool, true, false, cond}
use mathlib.Core.List.{List}
use Prim.Native.Nat.{ℕ, ◌*◌, ◌/◌, ◌%◌, ◌^◌, ◌<◌, ◌≤◌}
use native.Mathlib.Omega.{arith}
use lib.Ieee.{Float, binary64, of_bits, le, add}
use lib.Ieee.Bits.{of_bits-fits}
use lib.Ieee.Fits.{round-fits, cond-fits, add-fits}
use lib.ListN.{length, get_or}
use lib.Seq.{sets}
use Rattle.limits.specs.Refusals.{counts_full}
use Rattle.limits.specs.declared.Refusal.TheVariants as refusal
use Rattle.host_numbers.specs.Numbers.{is_set}
use Rattle.estimate.specs.declared.ErrorEstimate.{ErrorEstimate}
use Rattle.estimate.specs.declared.Reading.{Reading}
use Rattle.estimate.specs.declared.Reading.TheVariants.{Known, Invalid}
use Rattle.estimate.specs.Wire.{estimate_of, wire_of}
use Rattle.estimate.specs.Error.{known_if, error_known, ms_of, reading_of}
use Rattle.clock_quality.specs.declared.ClockQuality.{ClockQuality}
use Rattle.clock_quality.specs.Quality as quality
use Rattle.clock_quality.specs.Quality.{clock_estimate_of, fresh, recorded_of}
use Rattle.clock_quality.specs.Bounds.{counts_fit, answer, state_after}
use Rattle.host_quality.specs.Words.{largest_of, quality_at, quality_words, ErrorKept, LastKept, LargestKept, QualityKept}
use Rattle.host_quality.proofs.Back.{wire_below, wire_kept, error_again, last_again, largest_again, quality_again}
use Rattle.host_clock_quality_words.proofs.Back.{stored_is_read}
use Rattle.host_clock_quality.specs.Calls.{left, estimates_from, fresh_to, record_after, record_of, record_to}

-- ---- nothing of what a call leaves is lost in its words

-- a largest error that was read
read_kept : (known bits : ℕ) → LargestKept (largest_of known bits)
read_kept known bits = by (is_set known)
  where
    by : (b : Bool) → LargestKept (cond b (Some (of_bits binary64 bits)) None)
    by true = largest_again (of_bits binary64 bits) (of_bits-fits binary64 bits)
    by false = refl

-- and one that a sample may have raised
raised-kept : (known bits : ℕ) (x y : Reading) → LargestKept (quality.largest_of (largest_of known bits) x y)
raised-kept known bits (Known x) (Known y) = by (is_set known)
  where
    by : (b : Bool) → LargestKept (quality.larger_of (cond b (Some (of_bits binary64 bits)) None) (add binary64 x y))
    by true = largest_again _ (cond-fits binary64 (le (add binary64 x y) (of_bits binary64 bits)) _ _ (of_bits-fits binary64 bits) (add-fits binary64 x y))
    by false = largest_again _ (add-fits binary64 x y)
raised-kept known bits (Known x) (Invalid w) = read_kept known bits
raised-kept known bits (Invalid w) y = read_kept known bits

reading-kept : (e : ErrorEstimate) → e.multiplier < 256 → ErrorKept (reading_of e)
reading-kept e h = by (error_known e)
  where
    by : (b : Bool) → ErrorKept (known_if b (ms_of e) (wire_of e))
    by true = error_again _ (round-fits binary64 false (e.multiplier * 1000 * 2 ^ e.scale) (2 ^ 32))
    by false = wire_kept (wire_of e) (wire_below e h)

-- an estimate that 16 bits say
said-kept : (w : ℕ) → LastKept (Some (clock_estimate_of (estimate_of w)))
said-kept w = last_again (clock_estimate_of (estimate_of w)) (six (w / 256)) (eight w) (reading-kept (estimate_of w) (eight w))
  where
    six : (n : ℕ) → n % 64 < 256
    six n = omega arith

    eight : (n : ℕ) → n % 256 < 256
    eight n = omega arith

-- one sample more
recorded-kept : (ws : List ℕ) (estimated sender reflector : ℕ) → QualityKept (recorded_of (quality_at 0 ws) (estimates_from estimated sender reflector))
unfolding quality_at
recorded-kept ws estimated sender reflector = by (is_set estimated)
  where
    by : (b : Bool) → QualityKept (recorded_of (quality_at 0 ws) (cond b (Some (estimate_of sender, estimate_of reflector)) None))
    by true = quality_again _ (raised-kept (get_or ws 8 0) (get_or ws 9 0) (reading_of (estimate_of sender)) (reading_of (estimate_of reflector))) (said-kept sender) (said-kept reflector)
    by false = quality_again _ (read_kept (get_or ws 8 0) (get_or ws 9 0)) refl refl

-- ---- the laws

-- a fresh quality is read as one with no sample
pub fresh_is_read : (ws : List ℕ) → length ws ≡ 16 → quality_at 0 (fresh_to ws).words ≡ fresh
unfolding fresh_to
fresh_is_read ws long = stored_is_read ws fresh long (quality_again fresh refl refl refl)

-- after `record`, served or refused, the words say the library's next quality
pub record_is_read : (ws : List ℕ) (estimated sender reflector : ℕ) → length ws ≡ 16
    → quality_at 0 (record_to ws estimated sender reflector).words ≡ state_after (quality_at 0 ws) (record_of ws estimated sender reflector)
unfolding record_to
record_is_read ws estimated sender reflector long = by (counts_fit (quality_at 0 ws))
  where
    by : (b : Bool) → let r = answer (cond b None (Some refusal.CountsFull)) (recorded_of (quality_at 0 ws) (estimates_from estimated sender reflector)) in
        quality_at 0 (record_after r ws).words ≡ state_after (quality_at 0 ws) r
    by true = stored_is_read ws (recorded_of (quality_at 0 ws) (estimates_from estimated sender reflector)) long (recorded-kept ws estimated sender reflector)
    by false = refl

-- a refusal is number 4, and changes nothing
pub refused-unchanged : (ws : List ℕ) (estimated sender reflector : ℕ) → counts_fit (quality_at 0 ws) ≡ false → record_to ws estimated sender reflector ≡ left counts_full ws
unfolding record_to
refused-unchanged ws estimated sender reflector full =
    ap (λ (b : Bool). record_after (answer (cond b None (Some refusal.CountsFull)) (recorded_of (quality_at 0 ws) (estimates_from estimated sender reflector))) ws) full

-- and it is served where every count is below its bound
pub served : (ws : List ℕ) (estimated sender reflector : ℕ) → counts_fit (quality_at 0 ws) ≡ true
    → record_to ws estimated sender reflector ≡ left 0 (sets ws 0 (quality_words (recorded_of (quality_at 0 ws) (estimates_from estimated sender reflector))))
unfolding record_to
served ws estimated sender reflector fit =
    ap (λ (b : Bool). record_after (answer (cond b None (Some refusal.CountsFull)) (recorded_of (quality_at 0 ws) (estimates_from estimated sender reflector))) ws) fit
