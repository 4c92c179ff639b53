-- The delays that the state keeps, sample by sample, are those of the figures of the plain list. Assumes nothing.
use Rattle.std.specs.Prelude.{Some, Option, None}
use mathlib.Core.Path.{◌≡◌, refl, ap, ap₂, ◌∙◌}
use mathlib.Core.Bool.{Bool, true, false, cond}
use mathlib.Core.List.{List, [], ◌∷◌, map}
use native.Mathlib.Numerals.{add-one}
use lib.IntN.{ℤ, ◌+ℤ◌}
use lib.ListN.{length}
use lib.Signed.{lt_z}
use Rattle.delays.specs.declared.Delays.{Delays}
use Rattle.delays.specs.Sums.{nanoseconds_of, sum_of}
use Rattle.delays.specs.Delays as state
use Rattle.delays.specs.Delays.{recorded_of, fresh}
use Rattle.delays.specs.Summary.{in_ms, extreme_ms, average_ms, summary_of}
use Rattle.delays.specs.Samples.{played, Shows}
use Rattle.delays.specs.Shown.{total-back, value-back, played-shows}
use Rattle.history.specs.Figures.{Figures, total, lesser, greater, with, least, greatest, figures_of}
use Rattle.observe_history.specs.RoundTrips.{extreme_of, delays_from, shown_ms, shown_from}

-- ---- one sample more

choose : (b b' : Bool) (z m : ℤ) → b ≡ b' → Some (cond b (nanoseconds_of z) (nanoseconds_of m)) ≡ Some (nanoseconds_of (cond b' z m))
choose b true z m e = rw e
choose b false z m e = rw e

less_more : (e : Option ℤ) (z : ℤ) → state.lesser (extreme_of e) (nanoseconds_of z) ≡ extreme_of (with lesser e z)
less_more None z = refl
less_more (Some m) z = choose _ (lt_z z m) z m (ap₂ lt_z (value-back z) (value-back m))

greater_more : (e : Option ℤ) (z : ℤ) → state.greater (extreme_of e) (nanoseconds_of z) ≡ extreme_of (with greater e z)
greater_more None z = refl
greater_more (Some m) z = choose _ (lt_z m z) z m (ap₂ lt_z (value-back m) (value-back z))

pub fresh-delays : fresh ≡ delays_from (figures_of [])
unfolding total least greatest
fresh-delays = refl

pub one_delay_more : (zs : List ℤ) (z : ℤ) → recorded_of (delays_from (figures_of zs)) (nanoseconds_of z) ≡ delays_from (figures_of (z ∷ zs))
unfolding total least greatest
one_delay_more zs z = λ i. record {
  count = add-one (length zs) i;
  sum = ap₂ (λ (a b : ℤ). sum_of (a +ℤ b)) (total-back (total zs)) (value-back z) i;
  min = less_more (least zs) z i;
  max = greater_more (greatest zs) z i;
}

-- Recording the samples of a list from fresh leaves the delays of its figures, so what crate delays proves of such a list holds of them.
pub delays-played : (zs : List ℤ) → played (map nanoseconds_of zs) ≡ delays_from (figures_of zs)
unfolding played
delays-played [] = fresh-delays
delays-played (z ∷ zs) = ap (λ (d : Delays). recorded_of d (nanoseconds_of z)) (delays-played zs) ∙ one_delay_more zs z

pub delays-show : (zs : List ℤ) → Shows (map nanoseconds_of zs) (delays_from (figures_of zs))
delays-show zs = rw (← delays-played zs) (played-shows (map nanoseconds_of zs))

-- ---- what is shown

ms_is : (e : Option ℤ) → extreme_ms (extreme_of e) ≡ shown_ms e
ms_is None = refl
ms_is (Some z) = ap (λ (x : ℤ). Some (in_ms x)) (value-back z)

pub delays-shown : (f : Figures) → summary_of (delays_from f) ≡ shown_from f
delays-shown f = λ i. record {
  samples = f.samples;
  min = ms_is f.minimum i;
  average = ap (λ (z : ℤ). average_ms z f.samples) (total-back f.sum) i;
  max = ms_is f.maximum i;
}
