-- The state after recording a list of samples from fresh shows them, and its three invalid counts add up to the fourth. Assumes nothing.
use Rattle.std.specs.Float.Ieee.{Float}
use Rattle.estimate.specs.declared.ErrorEstimate.{ErrorEstimate}
use Rattle.std.specs.Prelude.{◌≡◌, refl, Bool, ◌&&◌, List, [], ◌∷◌, ℕ, suc, ◌+◌, Option, Some, None}
use Rattle.std.proofs.Common.{ap, ◌∙◌, add-one, arith}
use Rattle.estimate.specs.Error.{reading_of}
use Rattle.clock_quality.specs.declared.ClockQuality.{ClockQuality}
use Rattle.clock_quality.specs.Quality.{Class, unknown, invalid_sender, invalid_reflector, invalid_both, unsynchronized, both, is_both, is_unsynchronized, is_invalid, is_unknown, is_invalid_sender, is_invalid_reflector, is_invalid_both, counted, largest_of, fresh, recorded_of}
use Rattle.clock_quality.specs.Samples.{class_of, count, largest_among, played, Shows, AddsUp}

-- no sample, and one sample more
pub fresh-shows : Shows [] fresh
unfolding count largest_among
fresh-shows = record {
  samples = refl;
  both = refl;
  unsynchronized = refl;
  invalid = refl;
  unknown = refl;
  invalid_sender = refl;
  invalid_reflector = refl;
  invalid_both = refl;
  sender = refl;
  reflector = refl;
  largest = refl;
}

pub recorded-shows : (q : ClockQuality) (es : List (Option (ErrorEstimate × ErrorEstimate))) (e : Option (ErrorEstimate × ErrorEstimate)) → Shows es q → Shows (e ∷ es) (recorded_of q e)
unfolding count largest_among
recorded-shows q es None s = record {
  samples = add-one q.samples ∙ ap suc s.samples;
  both = s.both;
  unsynchronized = s.unsynchronized;
  invalid = s.invalid;
  unknown = ap (λ (n : ℕ). n + 1) s.unknown;
  invalid_sender = s.invalid_sender;
  invalid_reflector = s.invalid_reflector;
  invalid_both = s.invalid_both;
  sender = refl;
  reflector = refl;
  largest = s.largest;
}
recorded-shows q es (Some (a, b)) s = let c = class_of (Some (a, b)) in record {
  samples = add-one q.samples ∙ ap suc s.samples;
  both = ap (counted (is_both c)) s.both;
  unsynchronized = ap (counted (is_unsynchronized c)) s.unsynchronized;
  invalid = ap (counted (is_invalid c)) s.invalid;
  unknown = ap (counted (is_unknown c)) s.unknown;
  invalid_sender = ap (counted (is_invalid_sender c)) s.invalid_sender;
  invalid_reflector = ap (counted (is_invalid_reflector c)) s.invalid_reflector;
  invalid_both = ap (counted (is_invalid_both c)) s.invalid_both;
  sender = refl;
  reflector = refl;
  largest = ap (λ (m : Option Float). largest_of m (reading_of a) (reading_of b)) s.largest;
}

-- the state after recording a list of samples from fresh shows them
pub played-shows : (es : List (Option (ErrorEstimate × ErrorEstimate))) → Shows es (played es)
unfolding played
played-shows [] = fresh-shows
played-shows (e ∷ es) = recorded-shows (played es) es e (played-shows es)

-- ---- "the three add up to the invalid count that exists"

one_class : (c : Class) (n a b d : ℕ) → n ≡ a + b + d → counted (is_invalid c) n ≡ counted (is_invalid_sender c) a + counted (is_invalid_reflector c) b + counted (is_invalid_both c) d
one_class unknown n a b d h = h
one_class invalid_sender n a b d h = omega (arith, h)
one_class invalid_reflector n a b d h = omega (arith, h)
one_class invalid_both n a b d h = omega (arith, h)
one_class unsynchronized n a b d h = h
one_class both n a b d h = h

-- of a plain list of samples
pub invalid_adds_up : (es : List (Option (ErrorEstimate × ErrorEstimate))) → count is_invalid es ≡ count is_invalid_sender es + count is_invalid_reflector es + count is_invalid_both es
unfolding count
invalid_adds_up [] = refl
invalid_adds_up (e ∷ es) = one_class (class_of e) (count is_invalid es) (count is_invalid_sender es) (count is_invalid_reflector es) (count is_invalid_both es) (invalid_adds_up es)

-- of a fresh one they do, a sample keeps it so, and so they do after any samples from fresh
pub fresh_adds_up : AddsUp fresh
fresh_adds_up = refl

pub recorded_adds_up : (q : ClockQuality) (e : Option (ErrorEstimate × ErrorEstimate)) → AddsUp q → AddsUp (recorded_of q e)
recorded_adds_up q None h = h
recorded_adds_up q (Some (a, b)) h = one_class (class_of (Some (a, b))) q.invalid q.invalid_sender q.invalid_reflector q.invalid_both h

pub played_adds_up : (es : List (Option (ErrorEstimate × ErrorEstimate))) → AddsUp (played es)
unfolding played
played_adds_up [] = fresh_adds_up
played_adds_up (e ∷ es) = recorded_adds_up (played es) e (played_adds_up es)
