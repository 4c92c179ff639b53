-- Worked examples of the figures, each computed. Lists are newest first.
use Rattle.std.specs.Prelude.{Some, None}
use mathlib.Core.Path.{◌≡◌, refl}
use mathlib.Core.Bool.{true, false}
use mathlib.Core.List.{[], ◌∷◌}
use Prim.Native.Nat.{ℕ}
use lib.IntN.{pos, negsuc}
use Rattle.estimate.specs.declared.ErrorEstimate.{ErrorEstimate}
use Rattle.clock_quality.specs.declared.ClockQuality.{ClockQuality}
use Rattle.clock_quality.specs.Samples as samples
use Rattle.history.specs.Counting.{has}
use Rattle.history.specs.Ledger.{rememberings, without, distinct, accepted, has_key, last_accepted, held, reply_class, ready, after_reply, events}
use Rattle.timestamps.specs.Converted.{converted, second_near}
use Rattle.history.specs.FollowUps.{follow_class, slot_at, measured, round_trips}
use Rattle.history.specs.Figures.{total, least, greatest, figures_of, quality_of, delays, given, estimates, round_trip_figures, delay_figures, clock_quality}
use Rattle.history.specs.Quality.{Sample, of_class, PlainQuality, plain_quality}
use Rattle.history.proofs.Examples.{listing, one, corrected}

-- 1 ns after -3 ns after 4 ns
three_delays : figures_of (pos 1 ∷ negsuc 2 ∷ pos 4 ∷ []) ≡ record { samples = 3; sum = pos 2; minimum = Some (negsuc 2); maximum = Some (pos 4) }
unfolding total least greatest
three_delays = refl

no_delay : figures_of [] ≡ record { samples = 0; sum = pos 0; minimum = None; maximum = None }
unfolding total least greatest
no_delay = refl

-- document 01's listing: one round trip of 50
listing_round_trips : round_trip_figures 4096 listing ≡ record { samples = 1; sum = pos 50; minimum = Some (pos 50); maximum = Some (pos 50) }
unfolding total least greatest round_trips events reply_class last_accepted held ready after_reply accepted rememberings distinct without has_key has
listing_round_trips = refl

-- a matched follow-up of a delay of 900 - 800, of a reply without estimates; before it, none
corrected_delays : (delay_figures 4 1 corrected ≡ record { samples = 1; sum = pos 100; minimum = Some (pos 100); maximum = Some (pos 100) })
    × (delay_figures 4 1 one ≡ record { samples = 0; sum = pos 0; minimum = None; maximum = None })
unfolding converted second_near total least greatest delays measured follow_class slot_at events reply_class last_accepted held ready after_reply accepted rememberings distinct without has_key has
corrected_delays = (refl, refl)

corrected_quality : clock_quality 4 1 corrected ≡ record {
  samples = 1;
  both = 0;
  unsynchronized = 0;
  invalid = 0;
  unknown = 1;
  invalid_sender = 0;
  invalid_reflector = 0;
  invalid_both = 0;
  sender = None;
  reflector = None;
  largest = None;
}
unfolding converted second_near samples.count samples.largest_among estimates measured follow_class slot_at events reply_class last_accepted held ready after_reply accepted rememberings distinct without has_key has
corrected_quality = refl

-- a synchronized clock with a multiplier of 1, and one with a multiplier of 0, whose error is not known
abbrev clock : ℕ → ErrorEstimate
clock m = record { synchronized = true; ptp = false; scale = 0; multiplier = m }

-- newest first: none, one error of two not known, both known
three_samples : ((quality_of (None ∷ Some (clock 1, clock 0) ∷ Some (clock 1, clock 1) ∷ [])).both ≡ 1)
    × ((quality_of (None ∷ Some (clock 1, clock 0) ∷ Some (clock 1, clock 1) ∷ [])).invalid ≡ 1)
    × ((quality_of (None ∷ Some (clock 1, clock 0) ∷ Some (clock 1, clock 1) ∷ [])).unknown ≡ 1)
    × ((quality_of (None ∷ Some (clock 1, clock 0) ∷ Some (clock 1, clock 1) ∷ [])).sender ≡ None)
unfolding samples.count
three_samples = (refl, refl, refl, refl)

-- whose estimate is invalid, and that the clocks do not matter then: newest first at both, at the reflector beside a sender that is not synchronized,
-- at the sender beside a synchronized reflector; a sample without estimates counts in none
abbrev loose : ℕ → ErrorEstimate
loose m = record { synchronized = false; ptp = false; scale = 0; multiplier = m }

abbrev ends : ClockQuality
ends = quality_of (Some (clock 0, loose 0) ∷ Some (loose 1, clock 0) ∷ None ∷ Some (clock 0, clock 1) ∷ Some (loose 0, clock 1) ∷ [])

whose : (ends.invalid ≡ 4) × (ends.invalid_sender ≡ 2) × (ends.invalid_reflector ≡ 1) × (ends.invalid_both ≡ 1) × (ends.unsynchronized ≡ 0) × (ends.unknown ≡ 1)
unfolding samples.count
whose = (refl, refl, refl, refl, refl, refl)

-- the sender's estimate first
both-given : given (Some (record { sender = clock 1; reflector = clock 0 })) ≡ Some (clock 1, clock 0)
both-given = refl

-- the same by class numbers
abbrev pair : ErrorEstimate → ErrorEstimate → Sample
pair s r = Some (record { sender = s; reflector = r })

abbrev plain_ends : PlainQuality
plain_ends = plain_quality (None ∷ pair (clock 0) (loose 0) ∷ pair (loose 1) (clock 0) ∷ pair (clock 0) (clock 1) ∷ pair (loose 0) (clock 1) ∷ pair (loose 1) (clock 1) ∷ pair (clock 1) (clock 1) ∷ [])

plain_whose : (plain_ends.invalid_sender ≡ 2) × (plain_ends.invalid_reflector ≡ 1) × (plain_ends.invalid_both ≡ 1) × (plain_ends.unsynchronized ≡ 1) × (plain_ends.both ≡ 1)
    × (plain_ends.unknown ≡ 1) × (plain_ends.samples ≡ 7) × (plain_ends.last ≡ None)
unfolding of_class
plain_whose = (refl, refl, refl, refl, refl, refl, refl, refl)
