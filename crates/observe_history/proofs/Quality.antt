-- The clock quality that the state keeps, sample by sample, is that of the plain list. Assumes nothing.
use Rattle.std.specs.Prelude.{Option}
use Rattle.estimate.specs.declared.ErrorEstimate.{ErrorEstimate}
use mathlib.Core.Path.{◌≡◌, refl}
use mathlib.Core.List.{List, [], ◌∷◌}
use Rattle.clock_quality.specs.declared.ClockQuality.{ClockQuality}
use Rattle.clock_quality.specs.Quality.{fresh, recorded_of}
use Rattle.clock_quality.specs.Samples.{played, Shows, AddsUp}
use Rattle.clock_quality.proofs.Samples.{recorded-shows, fresh-shows, played-shows, invalid_adds_up}
use Rattle.history.specs.Figures.{quality_of}

-- what shows a list is the quality of that list
pub shows_is : (es : List (Option (ErrorEstimate × ErrorEstimate))) (q : ClockQuality) → Shows es q → q ≡ quality_of es
shows_is es q s = λ i. record {
  samples = s.samples i;
  both = s.both i;
  unsynchronized = s.unsynchronized i;
  invalid = s.invalid i;
  unknown = s.unknown i;
  invalid_sender = s.invalid_sender i;
  invalid_reflector = s.invalid_reflector i;
  invalid_both = s.invalid_both i;
  sender = s.sender i;
  reflector = s.reflector i;
  largest = s.largest i;
}

pub is_shown : (es : List (Option (ErrorEstimate × ErrorEstimate))) → Shows es (quality_of es)
is_shown es = record {
  samples = refl;
  both = refl;
  unsynchronized = refl;
  invalid = refl;
  unknown = refl;
  invalid_sender = refl;
  invalid_reflector = refl;
  invalid_both = refl;
  sender = refl;
  reflector = refl;
  largest = refl;
}

pub fresh-quality : fresh ≡ quality_of []
fresh-quality = shows_is [] fresh fresh-shows

pub one_sample_more : (es : List (Option (ErrorEstimate × ErrorEstimate))) (e : Option (ErrorEstimate × ErrorEstimate)) → recorded_of (quality_of es) e ≡ quality_of (e ∷ es)
one_sample_more es e = shows_is (e ∷ es) (recorded_of (quality_of es) e) (recorded-shows (quality_of es) es e (is_shown es))

-- recording the samples of a list from fresh leaves the quality of that list
pub quality-played : (es : List (Option (ErrorEstimate × ErrorEstimate))) → played es ≡ quality_of es
quality-played es = shows_is es (played es) (played-shows es)

-- "the three add up to the invalid count that exists", of every list of samples
pub quality_adds_up : (es : List (Option (ErrorEstimate × ErrorEstimate))) → AddsUp (quality_of es)
quality_adds_up es = invalid_adds_up es
