-- Every entry that a host's numbers name fits its record, so that nothing of it is lost: host_log_read's `read-written` is about such entries.
-- Assumes nothing.
use Rattle.std.specs.Prelude.{Option, Some, None}
use Rattle.call_types.specs.declared.FollowUpTelemetry.{FollowUpTelemetry}
use mathlib.Core.Path.{refl}
use mathlib.Core.Bool.{Bool, true, false}
use mathlib.Core.List.{List}
use Prim.Native.Nat.{ℕ, ◌+◌, ◌/◌, ◌%◌}
use native.Mathlib.Omega.{arith}
use mir.Syntax.{w32, w64}
use mir.ValLaws.{to_z-Fits}
use Rattle.estimate.specs.Wire.{estimate_of}
use Rattle.record_parts.specs.Parts.{flag, pending_by, time_by, ordinal_by, counters_by, follow_by, estimates_by}
use Rattle.record_parts.specs.Fits.{U32, U64, PendingFits, TimeFits, OrdinalFits, CountersFit, FollowFits, ConvertedFits, EstimateFits, EstimatesFit, EntryFits}
use Rattle.host_numbers.specs.Numbers.{is_set}
use Rattle.host_numbers.proofs.Back.{joined-below}
use Rattle.host_observation.specs.Observation.{word, double, flags_at, observation_at}
use Rattle.host_log_write.specs.Told.{accept_told, observe_told, advance_told, idle_told}

-- ---- what is there by a flag

pending_fits : (there : Bool) (time tag : ℕ) → U64 time → U64 tag → PendingFits (pending_by there time tag)
pending_fits true time tag ht hg = record { time = ht; tag = hg }
pending_fits false time tag ht hg = tt

time-fits : (there : Bool) (n : ℕ) → U64 n → TimeFits (time_by there n)
time-fits true n h = to_z-Fits w64 n (record { fits = h })
time-fits false n h = tt

ordinal-fits : (there : Bool) (n : ℕ) → U32 n → OrdinalFits (ordinal_by there n)
ordinal-fits true n h = h
ordinal-fits false n h = tt

counters_fit : (there : Bool) (s r t : ℕ) → U32 s → U32 r → U32 t → CountersFit (counters_by there s r t)
counters_fit true s r t hs hr ht = record { sender = hs; received = hr; transmitted = ht }
counters_fit false s r t hs hr ht = tt

follow-fits : (there unknown : Bool) (s t : ℕ) → U32 s → U64 t → FollowFits (follow_by there s t unknown)
follow-fits true unknown s t hs ht = record { sequence = hs; timestamp = ht }
follow-fits false unknown s t hs ht = tt

-- no converted T3 fits beside any follow-up
converted-fits : (f : Option FollowUpTelemetry) → ConvertedFits f None
converted-fits None = refl
converted-fits (Some f) = tt

estimate_fits : (n : ℕ) → EstimateFits (estimate_of n)
estimate_fits n = record { scale = omega arith; multiplier = omega arith }

estimates_fit : (there : Bool) (s r : ℕ) → EstimatesFit (estimates_by there s r)
estimates_fit true s r = (estimate_fits s, estimate_fits r)
estimates_fit false s r = tt

-- ---- the calls

pub accept-fits : (sender reflector t3 pending time tag : ℕ) → U32 sender → U32 reflector → U64 t3 → U64 time → U64 tag
    → EntryFits (accept_told sender reflector t3 pending time tag)
accept-fits sender reflector t3 pending time tag hs hr h3 ht hg = record {
  key = record { sender = hs; reflector = hr; t3 = h3 };
  pending = pending_fits (is_set pending) time tag ht hg;
}

-- of words of 32 bits
module _ (ws : List ℕ) (h : (i : ℕ) → U32 (word ws i)) where
  double-fits : (i : ℕ) → U64 (double ws i)
  double-fits i = joined-below (word ws i) (word ws (i + 1)) (h i) (h (i + 1))

  pub observe-fits : EntryFits (observe_told ws)
  unfolding observation_at
  observe-fits = (
    record {
      key = record { sender = h 12; reflector = h 13; t3 = double-fits 0 };
      rtt = double-fits 2;
      t4 = time-fits (flag 1 (flags_at ws)) (double ws 4) (double-fits 4);
      reference = to_z-Fits w64 (double ws 6) (record { fits = double-fits 6 });
      offset = to_z-Fits w32 (word ws 19) (record { fits = h 19 });
      ordinal = ordinal-fits (flag 2 (flags_at ws)) (word ws 14) (h 14);
      counters = counters_fit (flag 4 (flags_at ws)) (word ws 15) (word ws 16) (word ws 17) (h 15) (h 16) (h 17);
      follow = follow-fits (flag 8 (flags_at ws)) (flag 128 (flags_at ws)) (word ws 18) (double ws 10) (h 18)
          (double-fits 10);
      quality = estimates_fit (flag 32 (flags_at ws)) (word ws 20 % 65536) (word ws 20 / 65536);
    },
    converted-fits (observation_at ws).follow,
  )

pub advance-fits : (time : ℕ) → U64 time → EntryFits (advance_told time)
advance-fits time h = h

pub idle-fits : EntryFits idle_told
idle-fits = tt
