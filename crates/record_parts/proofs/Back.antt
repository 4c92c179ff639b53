-- Each part of a call that fits is read back from its flag and its numbers, each number fits its field, and each flag is read back from the
-- sum of them. Assumes nothing.
use Rattle.std.specs.Prelude.{Option, Some, None, is_some, ℤ}
use Rattle.call_types.specs.declared.CounterPoint.{CounterPoint}
use Rattle.call_types.specs.declared.FollowUpTelemetry.{FollowUpTelemetry}
use Rattle.call_types.specs.declared.PendingPacket.{PendingPacket}
use mathlib.Core.Path.{◌≡◌, refl, sym, ap}
use mathlib.Core.Bool.{Bool, true, false}
use Prim.Native.Nat.{ℕ, ◌+◌, ◌*◌, ◌/◌, ◌%◌, ◌≤◌, ◌<◌}
use native.Mathlib.Omega.{arith}
use lib.Dec.{eqb, lit<}
use mir.Syntax.{w64}
use mir.ValLaws.{to_z-of_z, of_z_fits}
use Rattle.estimate.specs.declared.ClockFormat.{ClockFormat}
use Rattle.estimate.specs.declared.ClockFormat.TheVariants.{NTP, PTP}
use Rattle.estimate.specs.declared.ErrorEstimate.{ErrorEstimate}
use Rattle.estimate.specs.Make.{is_ptp, format_of}
use Rattle.estimate.specs.Wire.{bit, wire_of}
use Rattle.estimate.specs.RoundTrip.{estimate_back}
use Rattle.call_types.specs.declared.ReplyObservation.{ReplyObservation}
use Rattle.record_parts.specs.Parts.{flag, flag_of, observe_flags, pending_flag, pending_time, pending_tag, time_flag, time_word}
use Rattle.record_parts.specs.Parts.{ordinal_flag, ordinal_number, counters_flag, sender_count, received_count, transmitted_count}
use Rattle.record_parts.specs.Parts.{follow_flag, follow_sequence, follow_timestamp, follow_time, unknown_flag}
use Rattle.record_parts.specs.Parts.{estimates_flag, sender_wire, reflector_wire, format_flag}
use Rattle.record_parts.specs.Parts.{pending_by, time_by, ordinal_by, counters_by, follow_by, estimates_by}
use Rattle.record_parts.specs.Fits.{U16, U32, U64, PendingFits, TimeFits, OrdinalFits, CountersFit, FollowFits, ConvertedFits, EstimateFits, EstimatesFit}

-- ---- parts

pub pending_back : (p : Option PendingPacket) → pending_by (eqb (pending_flag p) 1) (pending_time p) (pending_tag p) ≡ p
pending_back None = refl
pending_back (Some p) = refl

pub time-back : (t : Option ℤ) → TimeFits t → time_by (eqb (time_flag t) 1) (time_word t) ≡ t
time-back None f = refl
time-back (Some z) f = ap Some (to_z-of_z w64 z f)

pub ordinal-back : (o : Option ℕ) → ordinal_by (eqb (ordinal_flag o) 1) (ordinal_number o) ≡ o
ordinal-back None = refl
ordinal-back (Some n) = refl

pub counters-back : (k : Option CounterPoint) → counters_by (eqb (counters_flag k) 1) (sender_count k) (received_count k) (transmitted_count k) ≡ k
counters-back None = refl
counters-back (Some p) = refl

is_bit : (b : Bool) → eqb (bit b) 1 ≡ b
is_bit true = refl
is_bit false = refl

pub follow-back : (f : Option FollowUpTelemetry) → follow_by (eqb (follow_flag f) 1) (follow_sequence f) (follow_timestamp f) (eqb (unknown_flag f) 1) ≡ f
follow-back None = refl
follow-back (Some f) = λ i. Some (record { sequence = f.sequence; timestamp = f.timestamp; unknown = is_bit f.unknown i })

pub converted-back : (f : Option FollowUpTelemetry) (t : Option ℤ) → ConvertedFits f t → time_by (eqb (time_flag (follow_time f t)) 1) (time_word (follow_time f t)) ≡ t
converted-back None t h = sym h
converted-back (Some f) t h = time-back t h

pub estimates-back : (q : Option (ErrorEstimate × ErrorEstimate)) → EstimatesFit q → estimates_by (eqb (estimates_flag q) 1) (sender_wire q) (reflector_wire q) ≡ q
estimates-back None h = refl
estimates-back (Some (s, r)) h = λ i.
    Some (estimate_back s h.0.scale h.0.multiplier i, estimate_back r h.1.scale h.1.multiplier i)

pub format_back : (f : ClockFormat) → format_of (eqb (format_flag f) 1) ≡ f
format_back NTP = refl
format_back PTP = refl

-- ---- numbers

pub pending_time-fits : (p : Option PendingPacket) → PendingFits p → U64 (pending_time p)
pending_time-fits None h = lit< tt
pending_time-fits (Some p) h = h.time

pub pending_tag-fits : (p : Option PendingPacket) → PendingFits p → U64 (pending_tag p)
pending_tag-fits None h = lit< tt
pending_tag-fits (Some p) h = h.tag

pub time_word-fits : (t : Option ℤ) → TimeFits t → U64 (time_word t)
time_word-fits None h = lit< tt
time_word-fits (Some z) h = (of_z_fits w64 z h).fits

pub ordinal_number-fits : (o : Option ℕ) → OrdinalFits o → U32 (ordinal_number o)
ordinal_number-fits None h = lit< tt
ordinal_number-fits (Some n) h = h

pub sender_count-fits : (k : Option CounterPoint) → CountersFit k → U32 (sender_count k)
sender_count-fits None h = lit< tt
sender_count-fits (Some p) h = h.sender

pub received_count-fits : (k : Option CounterPoint) → CountersFit k → U32 (received_count k)
received_count-fits None h = lit< tt
received_count-fits (Some p) h = h.received

pub transmitted_count-fits : (k : Option CounterPoint) → CountersFit k → U32 (transmitted_count k)
transmitted_count-fits None h = lit< tt
transmitted_count-fits (Some p) h = h.transmitted

pub follow_sequence-fits : (f : Option FollowUpTelemetry) → FollowFits f → U32 (follow_sequence f)
follow_sequence-fits None h = lit< tt
follow_sequence-fits (Some f) h = h.sequence

pub follow_timestamp-fits : (f : Option FollowUpTelemetry) → FollowFits f → U64 (follow_timestamp f)
follow_timestamp-fits None h = lit< tt
follow_timestamp-fits (Some f) h = h.timestamp

pub follow_time-fits : (f : Option FollowUpTelemetry) (t : Option ℤ) → ConvertedFits f t → TimeFits (follow_time f t)
follow_time-fits None t h = tt
follow_time-fits (Some f) t h = h

bit_lt : (b : Bool) → bit b < 2
bit_lt true = lit< tt
bit_lt false = lit< tt

wire_fits : (e : ErrorEstimate) → EstimateFits e → U16 (wire_of e)
wire_fits e h = small (bit e.synchronized) (bit e.ptp) e.scale e.multiplier (bit_lt e.synchronized) (bit_lt e.ptp) h.scale h.multiplier
  where
    small : (a b s m : ℕ) → a < 2 → b < 2 → s ≤ 63 → m < 256 → a * 32768 + b * 16384 + s % 64 * 256 + m < 65536
    small a b s m p q u v = omega arith

pub sender_wire-fits : (q : Option (ErrorEstimate × ErrorEstimate)) → EstimatesFit q → U16 (sender_wire q)
sender_wire-fits None h = lit< tt
sender_wire-fits (Some (s, r)) h = wire_fits s h.0

pub reflector_wire-fits : (q : Option (ErrorEstimate × ErrorEstimate)) → EstimatesFit q → U16 (reflector_wire q)
reflector_wire-fits None h = lit< tt
reflector_wire-fits (Some (s, r)) h = wire_fits r h.1

-- ---- flags

pub flag_of_lt : {A : Type 0} (part : Option A) → flag_of part < 2
flag_of_lt part = bit_lt (is_some part)

pub pending_flag-back : (p : Option PendingPacket) → flag 1 (pending_flag p) ≡ eqb (pending_flag p) 1
pending_flag-back None = refl
pending_flag-back (Some p) = refl

unknown_flag_lt : (f : Option FollowUpTelemetry) → unknown_flag f < 2
unknown_flag_lt None = lit< tt
unknown_flag_lt (Some f) = bit_lt f.unknown

-- eight flags in a byte
module _ (a b c d e f g h : ℕ) (ha : a < 2) (hb : b < 2) (hc : c < 2) (hd : d < 2) (he : e < 2) (hf : f < 2) (hg : g < 2) (hh : h < 2) where
  abbrev all : ℕ
  all = a + 2 * b + 4 * c + 8 * d + 16 * e + 32 * f + 64 * g + 128 * h

  byte_lt : all < 256
  byte_lt = omega arith

  at_1 : all / 1 % 2 ≡ a
  at_1 = omega arith

  at_2 : all / 2 % 2 ≡ b
  at_2 = omega arith

  at_4 : all / 4 % 2 ≡ c
  at_4 = omega arith

  at_8 : all / 8 % 2 ≡ d
  at_8 = omega arith

  at_16 : all / 16 % 2 ≡ e
  at_16 = omega arith

  at_32 : all / 32 % 2 ≡ f
  at_32 = omega arith

  at_64 : all / 64 % 2 ≡ g
  at_64 = omega arith

  at_128 : all / 128 % 2 ≡ h
  at_128 = omega arith

-- what the flags of an observe say
pub record FlagsBack (o : ReplyObservation) (t : Option ℤ) : Type 0 where
  pub fits : observe_flags o t < 256
  pub timed : flag 1 (observe_flags o t) ≡ eqb (time_flag o.t4) 1
  pub numbered : flag 2 (observe_flags o t) ≡ eqb (ordinal_flag o.ordinal) 1
  pub counted : flag 4 (observe_flags o t) ≡ eqb (counters_flag o.counters) 1
  pub followed : flag 8 (observe_flags o t) ≡ eqb (follow_flag o.follow) 1
  pub converted : flag 16 (observe_flags o t) ≡ eqb (time_flag (follow_time o.follow t)) 1
  pub estimated : flag 32 (observe_flags o t) ≡ eqb (estimates_flag o.quality) 1
  pub ptp : flag 64 (observe_flags o t) ≡ eqb (format_flag o.format) 1
  pub unknown : flag 128 (observe_flags o t) ≡ eqb (unknown_flag o.follow) 1

eight_back : (o : ReplyObservation) (t : Option ℤ) (a b c d e f g h : ℕ) → a < 2 → b < 2 → c < 2 → d < 2 → e < 2 → f < 2 → g < 2 → h < 2
    → observe_flags o t ≡ a + 2 * b + 4 * c + 8 * d + 16 * e + 32 * f + 64 * g + 128 * h
    → (observe_flags o t < 256) × (observe_flags o t / 1 % 2 ≡ a) × (observe_flags o t / 2 % 2 ≡ b) × (observe_flags o t / 4 % 2 ≡ c) × (observe_flags o t / 8 % 2 ≡ d)
    × (observe_flags o t / 16 % 2 ≡ e) × (observe_flags o t / 32 % 2 ≡ f) × (observe_flags o t / 64 % 2 ≡ g) × (observe_flags o t / 128 % 2 ≡ h)
eight_back o t a b c d e f g h ha hb hc hd he hf hg hh q = rw q (
  byte_lt a b c d e f g h ha hb hc hd he hf hg hh,
  at_1 a b c d e f g h ha hb hc hd he hf hg hh,
  at_2 a b c d e f g h ha hb hc hd he hf hg hh,
  at_4 a b c d e f g h ha hb hc hd he hf hg hh,
  at_8 a b c d e f g h ha hb hc hd he hf hg hh,
  at_16 a b c d e f g h ha hb hc hd he hf hg hh,
  at_32 a b c d e f g h ha hb hc hd he hf hg hh,
  at_64 a b c d e f g h ha hb hc hd he hf hg hh,
  at_128 a b c d e f g h ha hb hc hd he hf hg hh,
)

is_one : {m n : ℕ} → m ≡ n → eqb m 1 ≡ eqb n 1
is_one e = ap (λ (k : ℕ). eqb k 1) e

flags_sum : (o : ReplyObservation) (t : Option ℤ)
    → observe_flags o t ≡ time_flag o.t4 + 2 * ordinal_flag o.ordinal + 4 * counters_flag o.counters + 8 * follow_flag o.follow
    + 16 * time_flag (follow_time o.follow t) + 32 * estimates_flag o.quality + 64 * format_flag o.format + 128 * unknown_flag o.follow
unfolding observe_flags
flags_sum o t = refl

pub flags-back : (o : ReplyObservation) (t : Option ℤ) → FlagsBack o t
flags-back o t =
    let all = eight_back o t (time_flag o.t4) (ordinal_flag o.ordinal) (counters_flag o.counters) (follow_flag o.follow) (time_flag (follow_time o.follow t))
    (estimates_flag o.quality) (format_flag o.format) (unknown_flag o.follow) (flag_of_lt o.t4) (flag_of_lt o.ordinal) (flag_of_lt o.counters)
    (flag_of_lt o.follow) (flag_of_lt (follow_time o.follow t)) (flag_of_lt o.quality) (bit_lt (is_ptp o.format)) (unknown_flag_lt o.follow) (flags_sum o t) in
    record {
      fits = all.0;
      timed = is_one all.1;
      numbered = is_one all.2;
      counted = is_one all.3;
      followed = is_one all.4;
      converted = is_one all.5;
      estimated = is_one all.6;
      ptp = is_one all.7;
      unknown = is_one all.8;
    }
