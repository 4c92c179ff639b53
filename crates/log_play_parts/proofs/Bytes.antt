-- The numbers of a record that is read from the bytes of a log fit their types. Assumes nothing.
use Rattle.std.specs.Prelude.{Option, None}
use Rattle.call_types.specs.declared.Call.{Call}
use mathlib.Core.Path.{◌≡◌}
use mathlib.Core.Bool.{Bool, true, false, cond}
use mathlib.Core.List.{List, [], ◌∷◌}
use Prim.Native.Nat.{ℕ, zero, suc, ◌+◌, ◌*◌, ◌^◌, ◌<◌}
use native.Mathlib.Omega.{arith}
use lib.Dec.{eqb, ltb, lit<}
use lib.ListN.{length, get_or, take, drop}
use mir.Syntax.{w32, w64}
use mir.ValLaws.{to_z-Fits}
use Rattle.big_endian.specs.Numbers.{number_at}
use Rattle.estimate.specs.Wire.{estimate_of}
use Rattle.record_parts.specs.declared.Entry.{Entry}
use Rattle.record_parts.specs.declared.Entry.TheVariants as entry
use Rattle.record_parts.specs.Parts.{call_of, flag, time_by, ordinal_by, counters_by, follow_by, estimates_by}
use Rattle.record_parts.specs.Fits.{U32, U64, TimeFits, OrdinalFits, CountersFit, FollowFits, EstimateFits, EstimatesFit, ObservationFits}
use Rattle.log_record.specs.Records.{sent_at, accept_at, observe_at, converted_at, entry_of, good, answer, read_of}
use Rattle.log_whole.specs.Logs.{count_of, settings_of, most_bytes, trailer_good, record_at, played_by, call_at}
use Rattle.log_play_parts.specs.Parts.{CallFits, ReadFits}

-- each byte is below 256
abbrev Bytes : List ℕ → Type 0
Bytes bs = (i : ℕ) → get_or bs i 0 < 256

-- ---- bytes of a part of the log

pub bytes_drop : (n : ℕ) (bs : List ℕ) → Bytes bs → Bytes (drop n bs)
bytes_drop zero bs h = h
bytes_drop (suc n) [] h = h
bytes_drop (suc n) (b ∷ bs) h = bytes_drop n bs (λ i. h (suc i))

pub bytes_take : (n : ℕ) (bs : List ℕ) → Bytes bs → Bytes (take n bs)
bytes_take zero bs h i = lit< tt
bytes_take (suc n) [] h i = lit< tt
bytes_take (suc n) (b ∷ bs) h zero = h 0
bytes_take (suc n) (b ∷ bs) h (suc i) = bytes_take n bs (λ j. h (suc j)) i

-- ---- numbers of two, four and eight bytes

join_two : (a b : ℕ) → a < 256 → b < 256 → a * 256 + b < 65536
join_two a b l m = omega arith

join_four : (a b : ℕ) → a < 65536 → b < 65536 → a * 65536 + b < 4294967296
join_four a b l m = omega arith

join_eight : (a b : ℕ) → a < 4294967296 → b < 4294967296 → a * 4294967296 + b < 18446744073709551616
join_eight a b l m = omega arith

module _ (bs : List ℕ) (h : Bytes bs) where
  pub two_bytes : (at : ℕ) → number_at 1 bs at < 2 ^ 16
  two_bytes at = join_two (get_or bs at 0) (get_or bs (at + 1) 0) (h at) (h (at + 1))

  pub four_bytes : (at : ℕ) → number_at 2 bs at < 2 ^ 32
  four_bytes at = join_four (number_at 1 bs at) (number_at 1 bs (at + 2)) (two_bytes at) (two_bytes (at + 2))

  pub eight_bytes : (at : ℕ) → number_at 3 bs at < 2 ^ 64
  eight_bytes at = join_eight (number_at 2 bs at) (number_at 2 bs (at + 4)) (four_bytes at) (four_bytes (at + 4))

-- ---- what is there by a flag

time-fits : (there : Bool) (n : ℕ) → U64 n → TimeFits (time_by there n)
time-fits true n h = to_z-Fits w64 n (record { fits = h })
time-fits false n h = tt

ordinal-fits : (there : Bool) (n : ℕ) → U32 n → OrdinalFits (ordinal_by there n)
ordinal-fits true n h = h
ordinal-fits false n h = tt

counters_fit : (there : Bool) (s r t : ℕ) → U32 s → U32 r → U32 t → CountersFit (counters_by there s r t)
counters_fit true s r t hs hr ht = record { sender = hs; received = hr; transmitted = ht }
counters_fit false s r t hs hr ht = tt

follow-fits : (there unknown : Bool) (s t : ℕ) → U32 s → U64 t → FollowFits (follow_by there s t unknown)
follow-fits true unknown s t hs ht = record { sequence = hs; timestamp = ht }
follow-fits false unknown s t hs ht = tt

estimate_fits : (n : ℕ) → EstimateFits (estimate_of n)
estimate_fits n = record { scale = omega arith; multiplier = omega arith }

estimates_fit : (there : Bool) (s r : ℕ) → EstimatesFit (estimates_by there s r)
estimates_fit true s r = (estimate_fits s, estimate_fits r)
estimates_fit false s r = tt

-- ---- a record

module _ (r : List ℕ) (h : Bytes r) where
  observe-fits : (flags : ℕ) → ObservationFits (observe_at flags r)
  observe-fits flags = record {
    key = record { sender = four_bytes r h 4; reflector = four_bytes r h 8; t3 = eight_bytes r h 12 };
    rtt = eight_bytes r h 20;
    t4 = time-fits (flag 1 flags) (number_at 3 r 28) (eight_bytes r h 28);
    reference = to_z-Fits w64 (number_at 3 r 36) (record { fits = eight_bytes r h 36 });
    offset = to_z-Fits w32 (number_at 2 r 44) (record { fits = four_bytes r h 44 });
    ordinal = ordinal-fits (flag 2 flags) (number_at 2 r 48) (four_bytes r h 48);
    counters = counters_fit (flag 4 flags) (number_at 2 r 52) (number_at 2 r 56) (number_at 2 r 60) (four_bytes r h 52) (four_bytes r h 56) (four_bytes r h 60);
    follow = follow-fits (flag 8 flags) (flag 128 flags) (number_at 2 r 64) (number_at 3 r 68) (four_bytes r h 64) (eight_bytes r h 68);
    quality = estimates_fit (flag 32 flags) (number_at 1 r 84) (number_at 1 r 86);
  }

  by_kind : (flags : ℕ) (a b c d : Bool) → CallFits (call_of (cond a (entry.Sent (sent_at r)) (cond b (entry.Accept (accept_at flags r)) (cond c (entry.Observe (observe_at flags r) (converted_at flags r)) (cond d (entry.Advance (number_at 3 r 4)) entry.Idle)))))
  by_kind flags true b c d = tt
  by_kind flags false true c d = four_bytes r h 8
  by_kind flags false false true d = observe-fits flags
  by_kind flags false false false true = tt
  by_kind flags false false false false = tt

  call_fits : CallFits (call_of (entry_of r))
  unfolding entry_of
  call_fits = by_kind (number_at 0 r 1) (eqb (number_at 0 r 0) 0) (eqb (number_at 0 r 0) 1) (eqb (number_at 0 r 0) 2) (eqb (number_at 0 r 0) 3)

answer-fits : (sized kept : Bool) (e : Entry) → CallFits (call_of e) → ReadFits (played_by (answer sized kept e))
answer-fits true true e f = f
answer-fits true false e f = tt
answer-fits false kept e f = tt

read_fits : (r : List ℕ) → Bytes r → ReadFits (played_by (read_of r))
unfolding read_of
read_fits r h = answer-fits (eqb (length r) 96) (good r) (entry_of r) (call_fits r h)

picked_fits : (a b c : Bool) (p : Option Call) → ReadFits p → ReadFits (cond a None (cond b (cond c p None) None))
picked_fits true b c p f = tt
picked_fits false true true p f = f
picked_fits false true false p f = tt
picked_fits false false c p f = tt

-- record i of a log
pub record-fits : (log : List ℕ) → Bytes log → (i : ℕ) → ReadFits (call_at log i)
unfolding call_at
record-fits log h i =
    picked_fits (ltb most_bytes (length log)) (trailer_good log) (ltb i (count_of log)) (played_by (read_of (record_at log (settings_of log).start i)))
    (read_fits (record_at log (settings_of log).start i) (bytes_take 96 (drop ((settings_of log).start + 96 * i) log) (bytes_drop ((settings_of log).start + 96 * i) log h)))
