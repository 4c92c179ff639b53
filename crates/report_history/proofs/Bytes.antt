-- The numbers of a call that is read from a log fit their types. Assumes nothing.
use Rattle.std.specs.Prelude.{Option, Some, None, Err, Ok, Result}
use mathlib.Core.Path.{◌≡◌, ap, subst}
use mathlib.Core.Bool.{Bool, true, false, cond}
use mathlib.Core.List.{List}
use Prim.Native.Nat.{ℕ, zero, suc, ◌+◌, ◌*◌, ◌^◌, ◌<◌}
use native.Mathlib.Omega.{arith}
use lib.Dec.{eqb, ltb}
use lib.ListN.{length, drop}
use Rattle.big_endian.specs.Numbers.{number_at}
use Rattle.call_types.specs.declared.Call.{Call}
use Rattle.call_types.specs.declared.Call.TheVariants as call
use Rattle.reply_history.specs.Fits.{KeyFits, OrdinalFits, CountersFit, FollowFits}
use Rattle.observe_history.specs.FollowUps.{QualityFits}
use Rattle.record_parts.specs.declared.Entry.{Entry}
use Rattle.record_parts.specs.declared.Entry.TheVariants as entry
use Rattle.record_parts.specs.Parts.{call_of, flag, ordinal_by, counters_by, follow_by, estimates_by}
use Rattle.log_record.specs.Records.{key_at, sent_at, accept_at, observe_at, converted_at, entry_of, good, answer, bad_record, read_of}
use Rattle.log_whole.specs.declared.Settings.{Settings}
use Rattle.log_whole.specs.declared.Fault.{Fault}
use Rattle.log_whole.specs.declared.Fault.TheVariants as fault
use Rattle.log_whole.specs.Logs.{trailer_at, count_of, settings_of, most_bytes, trailer_good, record_at, played_by, call_at, log_of, number_by, records_number, first_of, bad_trailer}
use Rattle.link_history.specs.Fresh.{Fits, AllFits}
use Rattle.log_play_parts.proofs.Bytes.{bytes_drop, bytes_take, two_bytes, four_bytes, eight_bytes}
use Rattle.report_history.specs.Bytes.{BytesIn}
use Rattle.report_history.specs.Figures.{call_then, log_calls}

-- ---- the parts of a call

ordinal-fits : (b : Bool) (n : ℕ) → n < 2 ^ 32 → OrdinalFits (ordinal_by b n)
ordinal-fits true n l = l
ordinal-fits false n l = tt

counters_fit : (b : Bool) (s r t : ℕ) → s < 2 ^ 32 → r < 2 ^ 32 → t < 2 ^ 32 → CountersFit (counters_by b s r t)
counters_fit true s r t ls lr lt = record { sender_in = ls; received_in = lr; transmitted_in = lt }
counters_fit false s r t ls lr lt = tt

follow-fits : (b : Bool) (s t : ℕ) (u : Bool) → s < 2 ^ 32 → t < 2 ^ 64 → FollowFits (follow_by b s t u)
follow-fits true s t u ls lt = record { sequence_in = ls; timestamp_in = lt }
follow-fits false s t u ls lt = tt

quality-fits : (b : Bool) (s r : ℕ) → QualityFits (estimates_by b s r)
quality-fits true s r = (omega arith, omega arith)
quality-fits false s r = tt

module _ (r : List ℕ) (h : BytesIn r) where
  key_fits : KeyFits (key_at r)
  key_fits = record { sender_in = four_bytes r h 4; reflector_in = four_bytes r h 8; t3_in = eight_bytes r h 12 }

  sent-fits : Fits (call.Sent (sent_at r))
  sent-fits = (record { sequence_in = four_bytes r h 4; ordinal_in = four_bytes r h 8; train_in = four_bytes r h 28 }, tt)

  observe-fits : (flags : ℕ) → Fits (call.Observe (observe_at flags r))
  observe-fits flags = (
    record {
      key_fits = key_fits;
      rtt_in = eight_bytes r h 20;
      ordinal-fits = ordinal-fits (flag 2 flags) (number_at 2 r 48) (four_bytes r h 48);
      counters_fit = counters_fit (flag 4 flags) (number_at 2 r 52) (number_at 2 r 56) (number_at 2 r 60) (four_bytes r h 52) (four_bytes r h 56) (four_bytes r h 60);
      follow-fits = follow-fits (flag 8 flags) (number_at 2 r 64) (number_at 3 r 68) (flag 128 flags) (four_bytes r h 64) (eight_bytes r h 68);
    },
    quality-fits (flag 32 flags) (number_at 1 r 84) (number_at 1 r 86),
  )

  by_kind : (flags : ℕ) (a b c d : Bool) → Fits (call_of (cond a (entry.Sent (sent_at r)) (cond b (entry.Accept (accept_at flags r)) (cond c (entry.Observe (observe_at flags r) (converted_at flags r)) (cond d (entry.Advance (number_at 3 r 4)) entry.Idle)))))
  by_kind flags true b c d = sent-fits
  by_kind flags false true c d = (key_fits, tt)
  by_kind flags false false true d = observe-fits flags
  by_kind flags false false false true = (eight_bytes r h 4, tt)
  by_kind flags false false false false = (tt, tt)

  pub call_fits : Fits (call_of (entry_of r))
  unfolding entry_of
  call_fits = by_kind (number_at 0 r 1) (eqb (number_at 0 r 0) 0) (eqb (number_at 0 r 0) 1) (eqb (number_at 0 r 0) 2) (eqb (number_at 0 r 0) 3)

-- ---- the calls of a log

abbrev PlayedFits : Option Call → Type 0
PlayedFits None = Unit
PlayedFits (Some c) = Fits c

answer-fits : (sized kept : Bool) (e : Entry) → Fits (call_of e) → PlayedFits (played_by (answer sized kept e))
answer-fits true true e f = f
answer-fits true false e f = tt
answer-fits false kept e f = tt

read_fits : (r : List ℕ) → BytesIn r → PlayedFits (played_by (read_of r))
unfolding read_of
read_fits r h = answer-fits (eqb (length r) 96) (good r) (entry_of r) (call_fits r h)

picked_fits : (a b c : Bool) (p : Option Call) → PlayedFits p → PlayedFits (cond a None (cond b (cond c p None) None))
picked_fits true b c p f = tt
picked_fits false true true p f = f
picked_fits false true false p f = tt
picked_fits false false c p f = tt

played-fits : (log : List ℕ) → BytesIn log → (i : ℕ) → PlayedFits (call_at log i)
unfolding call_at
played-fits log h i =
    picked_fits (ltb most_bytes (length log)) (trailer_good log) (ltb i (count_of log)) (played_by (read_of (record_at log (settings_of log).start i)))
    (read_fits (record_at log (settings_of log).start i) (bytes_take 96 (drop ((settings_of log).start + 96 * i) log) (bytes_drop ((settings_of log).start + 96 * i) log h)))

then-fits : (p : Option Call) (cs : List Call) → PlayedFits p → AllFits cs → AllFits (call_then p cs)
unfolding AllFits
then-fits None cs f w = w
then-fits (Some c) cs f w = (f, w)

pub log_fits : (log : List ℕ) → BytesIn log → (n : ℕ) → AllFits (log_calls log n)
unfolding AllFits log_calls
log_fits log h zero = tt
log_fits log h (suc n) = then-fits (call_at log n) (log_calls log n) (played-fits log h n) (log_fits log h n)

-- ---- the settings of a good log

abbrev NotGood : Result Settings Fault → Type 0
NotGood (Ok s) = ⊥
NotGood (Err f) = Unit

abbrev settings_in : Settings → Result Settings Fault → Settings
settings_in d (Ok s) = s
settings_in d (Err f) = d

good_is : (a b c : Bool) (first : ℕ) (t s : Settings) → cond a (Ok t) (cond b (Err (fault.BadRecord first)) (cond c (Err fault.BadTrailer) (Err fault.TooLong))) ≡ Ok s → t ≡ s
good_is true b c first t s e = ap (settings_in t) e
good_is false true c first t s e = absurd (subst NotGood e tt)
good_is false false true first t s e = absurd (subst NotGood e tt)
good_is false false false first t s e = absurd (subst NotGood e tt)

pub good_settings : (log : List ℕ) (s : Settings) → log_of log ≡ Ok s → settings_of log ≡ s
unfolding log_of
good_settings log s e =
    let n = number_by (ltb most_bytes (length log)) (trailer_good log) (records_number (first_of log) (settings_of log).count) in
    good_is (eqb n 0) (eqb n bad_record) (eqb n bad_trailer) (first_of log) (settings_of log) s e

pub copies_in : (log : List ℕ) → BytesIn log → (settings_of log).copies < 2 ^ 16
unfolding settings_of
copies_in log h = two_bytes log h (trailer_at log + 8)
