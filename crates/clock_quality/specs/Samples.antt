-- What a clock quality shows, from the plain list of its samples, the newest first. Assumes nothing.
use Rattle.clock_quality.specs.declared.ClockEstimate.{ClockEstimate}
use Rattle.estimate.specs.declared.ErrorEstimate.{ErrorEstimate}
use Rattle.std.specs.Prelude.{◌≡◌, Bool, ◌&&◌, ◌⊎◌, List, [], ◌∷◌, ℕ, ◌+◌, ◌<◌, length, T, Float, Option, Some, None}
use Rattle.std.specs.Float.Ieee.{le}
use Rattle.estimate.specs.Error.{reading_of}
use Rattle.clock_quality.specs.declared.ClockQuality.{ClockQuality}
use Rattle.clock_quality.specs.Quality.{Class, unknown, pair_class, is_known, is_both, is_unsynchronized, is_invalid, is_unknown, is_invalid_sender, is_invalid_reflector, is_invalid_both, counted, largest_of, clock_estimate_of, fresh, recorded_of}

-- the class of a sample
abbrev pub class_of : Option (ErrorEstimate × ErrorEstimate) → Class
class_of None = unknown
class_of (Some (s, r)) = pair_class (is_known (reading_of s)) (is_known (reading_of r)) (s.synchronized && r.synchronized)

-- how many samples have a class that passes a test
unfoldable pub count : (Class → Bool) → List (Option (ErrorEstimate × ErrorEstimate)) → ℕ
count test [] = 0
count test (e ∷ es) = counted (test (class_of e)) (count test es)

-- the first of a sample's two estimates, absent where it had none
abbrev pub sender_of : Option (ErrorEstimate × ErrorEstimate) → Option ClockEstimate
sender_of None = None
sender_of (Some (s, r)) = Some (clock_estimate_of s)

-- the second, likewise
abbrev pub reflector_of : Option (ErrorEstimate × ErrorEstimate) → Option ClockEstimate
reflector_of None = None
reflector_of (Some (s, r)) = Some (clock_estimate_of r)

-- what the newest sample says, and nothing where there is none
abbrev pub newest : (Option (ErrorEstimate × ErrorEstimate) → Option ClockEstimate) → List (Option (ErrorEstimate × ErrorEstimate)) → Option ClockEstimate
newest of [] = None
newest of (e ∷ es) = of e

-- with the combined error of one sample
abbrev pub largest_with : Option Float → Option (ErrorEstimate × ErrorEstimate) → Option Float
largest_with m None = m
largest_with m (Some (s, r)) = largest_of m (reading_of s) (reading_of r)

-- the largest combined error of the samples whose two errors are known
unfoldable pub largest_among : List (Option (ErrorEstimate × ErrorEstimate)) → Option Float
largest_among [] = None
largest_among (e ∷ es) = largest_with (largest_among es) e

-- t is the combined error of one of the samples
abbrev pub Combined : Float → List (Option (ErrorEstimate × ErrorEstimate)) → Type 0
Combined t [] = ⊥
Combined t (e ∷ es) = (largest_with None e ≡ Some t) ⊎ Combined t es

-- the largest of them, and none where there is none
abbrev pub Largest : List (Option (ErrorEstimate × ErrorEstimate)) → Option Float → Type 0
Largest es None = (t : Float) → Combined t es → ⊥
Largest es (Some m) = Combined m es × ((t : Float) → Combined t es → T (le t m))

-- multipliers are words of eight bits
abbrev pub InRange : List (Option (ErrorEstimate × ErrorEstimate)) → Type 0
InRange [] = Unit {0}
InRange (None ∷ es) = InRange es
InRange (Some (s, r) ∷ es) = (s.multiplier < 256) × (r.multiplier < 256) × InRange es

-- the quality that recording the samples leaves
unfoldable pub played : List (Option (ErrorEstimate × ErrorEstimate)) → ClockQuality
played [] = fresh
played (e ∷ es) = recorded_of (played es) e

-- each field, from the samples alone
pub record Shows (es : List (Option (ErrorEstimate × ErrorEstimate))) (q : ClockQuality) : Type 0 where
  pub samples : q.samples ≡ length es
  pub both : q.both ≡ count is_both es
  pub unsynchronized : q.unsynchronized ≡ count is_unsynchronized es
  pub invalid : q.invalid ≡ count is_invalid es
  pub unknown : q.unknown ≡ count is_unknown es
  pub invalid_sender : q.invalid_sender ≡ count is_invalid_sender es
  pub invalid_reflector : q.invalid_reflector ≡ count is_invalid_reflector es
  pub invalid_both : q.invalid_both ≡ count is_invalid_both es
  pub sender : q.sender ≡ newest sender_of es
  pub reflector : q.reflector ≡ newest reflector_of es
  pub largest : q.largest ≡ largest_among es

-- the counts of a quality add up
abbrev pub AddsUp : ClockQuality → Type 0
AddsUp q = q.invalid ≡ q.invalid_sender + q.invalid_reflector + q.invalid_both
