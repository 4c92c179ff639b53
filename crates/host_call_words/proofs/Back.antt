-- What a host reads of an observe record it can lend to `observe` as it stands: the words say the observation that they were made from.
-- Assumes nothing.
use Rattle.std.specs.Prelude.{None}
use mathlib.Core.Path.{◌≡◌, refl, ap, ◌∙◌}
use mathlib.Core.Bool.{Bool}
use Prim.Native.Nat.{ℕ, ◌+◌, ◌*◌, ◌/◌, ◌%◌, ◌^◌, ◌<◌}
use native.Mathlib.Omega.{arith}
use mir.Syntax.{w32, w64}
use mir.Val.{of_z, to_z}
use mir.ValLaws.{to_z-of_z, of_z_fits}
use Rattle.estimate.specs.Make.{format_of}
use Rattle.call_types.specs.declared.ReplyObservation.{ReplyObservation}
use Rattle.record_parts.specs.Parts.{flag, time_word, follow_timestamp, observe_flags, time_by, ordinal_by, counters_by, follow_by, estimates_by}
use Rattle.record_parts.specs.Parts.{ordinal_number, sender_count, received_count, transmitted_count, follow_sequence, sender_wire, reflector_wire}
use Rattle.record_parts.specs.Fits.{U16, U64, ObservationFits}
use Rattle.record_parts.proofs.Back.{time-back, ordinal-back, counters-back, follow-back, estimates-back, format_back, FlagsBack, flags-back}
use Rattle.record_parts.proofs.Back.{time_word-fits, follow_timestamp-fits, sender_wire-fits, reflector_wire-fits}
use Rattle.host_numbers.specs.Numbers.{lower, upper, joined}
use Rattle.host_observation.specs.Observation.{observation_at}
use Rattle.host_call_words.specs.Words.{observation_words}

-- a number of 8 bytes
long-back : (n : ℕ) → U64 n → joined (lower n) (upper n) ≡ n
long-back n h = omega arith

-- the two estimates in one word
sender_back : (s r : ℕ) → U16 s → (s + 65536 * r) % 65536 ≡ s
sender_back s r h = omega arith

reflector_back : (s r : ℕ) → U16 s → (s + 65536 * r) / 65536 ≡ r
reflector_back s r h = omega arith

small : (n : ℕ) → n < 256 → n % 256 ≡ n
small n h = omega arith

module _ (o : ReplyObservation) (h : ObservationFits o) where
  back : FlagsBack o None
  back = flags-back o None

  set : (k : ℕ) {b : Bool} → flag k (observe_flags o None) ≡ b → flag k (observe_flags o None % 256) ≡ b
  set k e = ap (flag k) (small (observe_flags o None) back.fits) ∙ e

  -- Nothing is lost, for each observation that its types hold.
  pub observation-back : observation_at (observation_words o) ≡ o
  unfolding observation_at
  observation-back = λ i. record {
    key = record { sender = o.key.sender; reflector = o.key.reflector; t3 = long-back o.key.t3 h.key.t3 i };
    rtt = long-back o.rtt h.rtt i;
    t4 = ((λ j. time_by (set 1 back.timed j) (long-back (time_word o.t4) (time_word-fits o.t4 h.t4) j)) ∙ time-back o.t4 h.t4) i;
    format = (ap format_of (set 64 back.ptp) ∙ format_back o.format) i;
    reference = (ap (to_z w64) (long-back (of_z w64 o.reference) (of_z_fits w64 o.reference h.reference).fits) ∙ to_z-of_z w64 o.reference h.reference) i;
    offset = to_z-of_z w32 o.offset h.offset i;
    ordinal = ((λ j. ordinal_by (set 2 back.numbered j) (ordinal_number o.ordinal)) ∙ ordinal-back o.ordinal) i;
    counters = ((λ j. counters_by (set 4 back.counted j) (sender_count o.counters) (received_count o.counters) (transmitted_count o.counters))
        ∙ counters-back o.counters) i;
    follow = ((λ j.
        follow_by (set 8 back.followed j) (follow_sequence o.follow)
        (long-back (follow_timestamp o.follow) (follow_timestamp-fits o.follow h.follow) j) (set 128 back.unknown j))
        ∙ follow-back o.follow) i;
    quality = ((λ j.
        estimates_by (set 32 back.estimated j)
        (sender_back (sender_wire o.quality) (reflector_wire o.quality) (sender_wire-fits o.quality h.quality) j)
        (reflector_back (sender_wire o.quality) (reflector_wire o.quality) (sender_wire-fits o.quality h.quality) j))
        ∙ estimates-back o.quality h.quality) i;
  }
