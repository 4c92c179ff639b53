-- What a sample leaves of a clock quality: a pair of estimates or none. Assumes nothing.
use Rattle.std.specs.Prelude.{Bool, true, false, ◌&&◌, cond, ℕ, ◌+◌, Float, Option, Some, None}
use Rattle.std.specs.Float.{binary64}
use Rattle.std.specs.Float.Ieee.{add, le}
use Rattle.estimate.specs.declared.ErrorEstimate.{ErrorEstimate}
use Rattle.estimate.specs.declared.Reading.{Reading}
use Rattle.estimate.specs.declared.Reading.TheVariants.{Known, Invalid}
use Rattle.estimate.specs.Make.{format_of}
use Rattle.estimate.specs.Error.{reading_of}
use Rattle.clock_quality.specs.declared.ClockEstimate.{ClockEstimate}
use Rattle.clock_quality.specs.declared.ClockQuality.{ClockQuality}

-- an estimate with all its fields, and its reading
abbrev pub clock_estimate_of : ErrorEstimate → ClockEstimate
clock_estimate_of e = record {
  synchronized = e.synchronized;
  format = format_of e.ptp;
  scale = e.scale;
  multiplier = e.multiplier;
  error = reading_of e;
}

-- no sample yet
abbrev pub fresh : ClockQuality
fresh = record {
  samples = 0;
  both = 0;
  unsynchronized = 0;
  invalid = 0;
  unknown = 0;
  invalid_sender = 0;
  invalid_reflector = 0;
  invalid_both = 0;
  sender = None;
  reflector = None;
  largest = None;
}

-- each sample is of one class: no estimates; invalid at the sender alone, at the reflector alone, at both; both errors known, and both clocks
-- synchronized, or not
pub data Class : Type 0 where
  unknown invalid_sender invalid_reflector invalid_both unsynchronized both : Class

-- an estimate's error has its ms; an invalid one, as that of multiplier 0, has its bits alone
abbrev pub is_known : Reading → Bool
is_known (Known x) = true
is_known (Invalid bits) = false

-- both errors are known: by whether both clocks are synchronized
abbrev pub known_class : Bool → Class
known_class true = both
known_class false = unsynchronized

-- the sender's is invalid: by whether the reflector's is known
abbrev pub invalid_with : Bool → Class
invalid_with true = invalid_sender
invalid_with false = invalid_both

-- by whether the sender's error is known, and the reflector's, and whether both clocks are synchronized, which does not matter where one is invalid
abbrev pub pair_class : Bool → Bool → Bool → Class
pair_class true true s = known_class s
pair_class true false s = invalid_reflector
pair_class false known s = invalid_with known

-- the sample had no estimates
abbrev pub is_unknown : Class → Bool
is_unknown unknown = true
is_unknown invalid_sender = false
is_unknown invalid_reflector = false
is_unknown invalid_both = false
is_unknown unsynchronized = false
is_unknown both = false

-- one of its two errors, or both, is invalid, whatever the clocks say
abbrev pub is_invalid : Class → Bool
is_invalid unknown = false
is_invalid invalid_sender = true
is_invalid invalid_reflector = true
is_invalid invalid_both = true
is_invalid unsynchronized = false
is_invalid both = false

-- the sender's alone
abbrev pub is_invalid_sender : Class → Bool
is_invalid_sender unknown = false
is_invalid_sender invalid_sender = true
is_invalid_sender invalid_reflector = false
is_invalid_sender invalid_both = false
is_invalid_sender unsynchronized = false
is_invalid_sender both = false

-- the reflector's alone
abbrev pub is_invalid_reflector : Class → Bool
is_invalid_reflector unknown = false
is_invalid_reflector invalid_sender = false
is_invalid_reflector invalid_reflector = true
is_invalid_reflector invalid_both = false
is_invalid_reflector unsynchronized = false
is_invalid_reflector both = false

-- both
abbrev pub is_invalid_both : Class → Bool
is_invalid_both unknown = false
is_invalid_both invalid_sender = false
is_invalid_both invalid_reflector = false
is_invalid_both invalid_both = true
is_invalid_both unsynchronized = false
is_invalid_both both = false

-- both errors are known, and a clock is not synchronized
abbrev pub is_unsynchronized : Class → Bool
is_unsynchronized unknown = false
is_unsynchronized invalid_sender = false
is_unsynchronized invalid_reflector = false
is_unsynchronized invalid_both = false
is_unsynchronized unsynchronized = true
is_unsynchronized both = false

-- both errors are known, and both clocks are synchronized
abbrev pub is_both : Class → Bool
is_both unknown = false
is_both invalid_sender = false
is_both invalid_reflector = false
is_both invalid_both = false
is_both unsynchronized = false
is_both both = true

-- a count rises where its test holds
abbrev pub counted : Bool → ℕ → ℕ
counted true n = n + 1
counted false n = n

-- the larger of two errors, the second where there was none. A combined error is above 0 and finite (`combined_positive`), so this is Rust's `max`
abbrev pub larger_of : Option Float → Float → Option Float
larger_of None combined = Some combined
larger_of (Some most) combined = Some (cond (le combined most) most combined)

-- the sum of two known errors, rounded once, counts for the largest
abbrev pub largest_of : Option Float → Reading → Reading → Option Float
largest_of m (Known x) (Known y) = larger_of m (add binary64 x y)
largest_of m (Known x) (Invalid bits) = m
largest_of m (Invalid bits) e = m

-- one sample more, of a class, with the estimates and the largest error that then stand
abbrev pub classed : ClockQuality → Class → Option ClockEstimate → Option ClockEstimate → Option Float → ClockQuality
classed q c s r l = record {
  samples = q.samples + 1;
  both = counted (is_both c) q.both;
  unsynchronized = counted (is_unsynchronized c) q.unsynchronized;
  invalid = counted (is_invalid c) q.invalid;
  unknown = counted (is_unknown c) q.unknown;
  invalid_sender = counted (is_invalid_sender c) q.invalid_sender;
  invalid_reflector = counted (is_invalid_reflector c) q.invalid_reflector;
  invalid_both = counted (is_invalid_both c) q.invalid_both;
  sender = s;
  reflector = r;
  largest = l;
}

-- a sample with two estimates
abbrev pub paired_of : ClockQuality → ClockEstimate → ClockEstimate → ClockQuality
paired_of q s r =
    classed q
    (pair_class (is_known s.error) (is_known r.error) (s.synchronized && r.synchronized))
    (Some s)
    (Some r)
    (largest_of q.largest s.error r.error)

-- what `record` leaves
abbrev pub recorded_of : ClockQuality → Option (ErrorEstimate × ErrorEstimate) → ClockQuality
recorded_of q None = classed q unknown None None q.largest
recorded_of q (Some (s, r)) = paired_of q (clock_estimate_of s) (clock_estimate_of r)
