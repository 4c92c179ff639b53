-- Clock quality from the plain list of samples, newest first: the estimates of the reply that each matched follow-up corrects, or none.
-- Assumes nothing.
use Rattle.std.specs.Prelude.{Bool, false, ◌&&◌, cond, List, [], ◌∷◌, ℕ, ◌+◌, ◌*◌, ◌^◌, eqb, leb, ltb, Float, length, Option, None, Some}
use Rattle.std.specs.Float.{binary64}
use Rattle.std.specs.Float.Ieee.{round, add, le}
use Rattle.estimate.specs.declared.ErrorEstimate.{ErrorEstimate}
use Rattle.history.specs.Counting.{tally}
use Rattle.history.specs.Given.{EstimatePair}

-- one sample
abbrev pub Sample : Type 0
Sample = Option EstimatePair

-- the error in ms: multiplier·2^(scale-32) s (RFC 4656, section 4.1.2); none for multiplier 0, which is invalid
abbrev pub error_ms : ErrorEstimate → Option Float
error_ms e = cond (ltb 0 e.multiplier && leb e.scale 63) (Some (round binary64 false (e.multiplier * 1000 * 2 ^ e.scale) (2 ^ 32))) None

-- 1 invalid at the sender alone, 2 at the reflector alone, 3 at both; with both errors 4 where a clock is not synchronized, else 5
abbrev pub pair_class : Option Float → Option Float → (synchronized : Bool) → ℕ
pair_class None None s = 3
pair_class None (Some y) s = 1
pair_class (Some x) None s = 2
pair_class (Some x) (Some y) s = cond s 5 4

-- of a sample, 0 where it has no estimates
abbrev pub class_of : Sample → ℕ
class_of None = 0
class_of (Some p) = pair_class (error_ms p.sender) (error_ms p.reflector) (p.sender.synchronized && p.reflector.synchronized)

-- how many samples are of the class n
unfoldable pub of_class : ℕ → List Sample → ℕ
of_class n [] = 0
of_class n (q ∷ qs) = tally (eqb n (class_of q)) (of_class n qs)

-- the larger of two errors, where there are two; the combined error is the sum of both, rounded once
abbrev pub larger_with : Option Float → Option Float → Option Float → Option Float
larger_with m None y = m
larger_with m (Some x) None = m
larger_with None (Some x) (Some y) = Some (add binary64 x y)
larger_with (Some m) (Some x) (Some y) = Some (cond (le (add binary64 x y) m) m (add binary64 x y))

-- with one sample more
abbrev pub largest_with : Option Float → Sample → Option Float
largest_with m None = m
largest_with m (Some p) = larger_with m (error_ms p.sender) (error_ms p.reflector)

-- the largest combined error of the samples that have both
unfoldable pub largest_error : List Sample → Option Float
largest_error [] = None
largest_error (q ∷ qs) = largest_with (largest_error qs) q

-- the estimates of the newest sample
abbrev pub newest : List Sample → Sample
newest [] = None
newest (q ∷ qs) = q

-- what is shown: how many samples, how many of each kind, the newest estimates, the largest combined error
pub record PlainQuality : Type 0 where
  pub samples : ℕ
  pub both : ℕ
  pub unsynchronized : ℕ
  pub unknown : ℕ
  pub invalid_sender : ℕ
  pub invalid_reflector : ℕ
  pub invalid_both : ℕ
  pub last : Sample
  pub largest : Option Float

-- of these samples
abbrev pub plain_quality : List Sample → PlainQuality
plain_quality qs = record {
  samples = length qs;
  both = of_class 5 qs;
  unsynchronized = of_class 4 qs;
  unknown = of_class 0 qs;
  invalid_sender = of_class 1 qs;
  invalid_reflector = of_class 2 qs;
  invalid_both = of_class 3 qs;
  last = newest qs;
  largest = largest_error qs;
}
