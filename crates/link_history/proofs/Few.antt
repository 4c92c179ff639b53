-- Of the served calls: each count is at most the calls counted, and there are at most twice as many events.
-- Assumes nothing.
use Rattle.std.specs.Prelude.{Option, None, Some}
use Rattle.estimate.specs.declared.ErrorEstimate.{ErrorEstimate}
use mathlib.Core.Bool.{Bool, true, false, not, ◌&&◌, cond}
use mathlib.Core.List.{List, [], ◌∷◌}
use mathlib.Core.Path.{◌≡◌, refl, ap}
use Prim.Native.Nat.{ℕ, suc, ◌+◌, ◌*◌, ◌≤◌}
use native.Mathlib.Omega.{arith}
use lib.Dec.{eqb}
use lib.IntN.{ℤ}
use lib.ListN.{length}
use Rattle.limits.specs.Limits.{capacity}
use Rattle.call_types.specs.declared.PendingPacket.{PendingPacket}
use Rattle.call_types.specs.declared.ReplyKey.{ReplyKey}
use Rattle.call_types.specs.declared.FollowUpTelemetry.{FollowUpTelemetry}
use Rattle.call_types.specs.declared.ReplyObservation.{ReplyObservation}
use Rattle.call_types.specs.declared.Call.{Call}
use Rattle.call_types.specs.declared.Call.TheVariants.{Sent, Accept, Observe, Advance, Idle}
use Rattle.clock_quality.specs.Quality as quality
use Rattle.clock_quality.specs.Samples as samples
use Rattle.history.specs.Counting.{tally, has, or_else}
use Rattle.history.specs.Given.{EstimatePair, packet_of, follow_of}
use Rattle.history.specs.Ledger.{Event, remembered, replied, observed, no_packet, accepted, held, Class, duplicate, unknown, unique, CallTest, is_sent, on_reply, on_observe, reply_class, ready, after_reply, events, count, oldest, replies, probes_evicted, evicted_unanswered}
use Rattle.history.specs.FollowUps.{Slot, free, taken, converted_in, Measured, with_times, with_slot, same_follow, matched, class_at, slot_at, with_follow, measured, round_trips}
use Rattle.history.specs.Figures.{delays, estimates}
use Rattle.link_history.specs.Shows.{is_counted, calls_in}

-- ---- the calls that pass a test

both_rise : (b d : Bool) (m n : ℕ) → tally b 0 ≤ tally d 0 → m ≤ n → tally b m ≤ tally d n
both_rise true true m n p l = omega arith
both_rise true false m n p l = absurd (omega (arith, p))
both_rise false true m n p l = omega arith
both_rise false false m n p l = l

pub count_few : (test : CallTest) → ((c : Call) (es : List Event) → tally (test c es) 0 ≤ tally (is_counted c es) 0) → (h : List Call) → count capacity test h ≤ calls_in h
unfolding count
count_few test p [] = omega arith
count_few test p (c ∷ h) = both_rise (test c (events capacity h)) (is_counted c (events capacity h)) (count capacity test h) (calls_in h) (p c (events capacity h)) (count_few test p h)

one : (b : Bool) → tally b 0 ≤ 1
one true = omega arith
one false = omega arith

pub on_sent : (c : Call) (es : List Event) → tally (is_sent c es) 0 ≤ tally (is_counted c es) 0
on_sent (Sent s) es = omega arith
on_sent (Accept a) es = omega arith
on_sent (Observe o) es = omega arith
on_sent (Advance t) es = omega arith
on_sent Idle es = omega arith

pub on_reply_lem : (f : ReplyKey → Option PendingPacket → List Event → Bool) (c : Call) (es : List Event) → tally (on_reply f c es) 0 ≤ tally (is_counted c es) 0
on_reply_lem f (Sent s) es = omega arith
on_reply_lem f (Accept a) es = one (f a.key (packet_of a.pending) es)
on_reply_lem f (Observe o) es = omega arith
on_reply_lem f (Advance t) es = omega arith
on_reply_lem f Idle es = omega arith

pub on_observe_lem : (f : ReplyObservation → List Event → Bool) (c : Call) (es : List Event) → tally (on_observe f c es) 0 ≤ tally (is_counted c es) 0
on_observe_lem f (Sent s) es = omega arith
on_observe_lem f (Accept a) es = omega arith
on_observe_lem f (Observe o) es = one (f o es)
on_observe_lem f (Advance t) es = omega arith
on_observe_lem f Idle es = omega arith

-- ---- the events

ready_few : (es : List Event) (k : ReplyKey) (p : Option PendingPacket) → length (ready capacity es k p) ≤ suc (length es)
unfolding ready
ready_few es k p = go (has (held capacity es) k.sender)
  where
    go : (b : Bool) → length (cond b es (remembered k.sender None 0 (or_else p no_packet) ∷ es)) ≤ suc (length es)
    go true = omega arith
    go false = omega arith

reply_few : (x : Class) (es : List Event) (k : ReplyKey) (p : Option PendingPacket) → length (after_reply capacity x es k p) ≤ 2 + length es
unfolding after_reply
reply_few duplicate es k p = omega arith
reply_few unknown es k p = omega arith
reply_few unique es k p = omega (arith, ready_few es k p)

pub events_few : (h : List Call) → length (events capacity h) ≤ 2 * calls_in h
unfolding events count
events_few [] = omega arith
events_few (Sent s ∷ h) = omega (arith, events_few h)
events_few (Accept a ∷ h) =
    omega (arith, events_few h, reply_few (reply_class capacity (events capacity h) a.key (packet_of a.pending)) (events capacity h) a.key (packet_of a.pending))
events_few (Observe o ∷ h) = omega (arith, events_few h)
events_few (Advance t ∷ h) = events_few h
events_few (Idle ∷ h) = events_few h

pub accepted_few : (es : List Event) → length (accepted es) ≤ length es
unfolding accepted
accepted_few [] = omega arith
accepted_few (remembered s o t p ∷ es) = omega (arith, accepted_few es)
accepted_few (replied k p ∷ es) = omega (arith, accepted_few es)
accepted_few (observed o ∷ es) = omega (arith, accepted_few es)

tally_few : (b : Bool) (m n : ℕ) → m ≤ n → tally b m ≤ suc n
tally_few true m n l = omega arith
tally_few false m n l = omega arith

pub evicted_few : (es : List Event) → probes_evicted capacity es ≤ length es
unfolding probes_evicted
evicted_few [] = omega arith
evicted_few (remembered s o t p ∷ es) = tally_few (eqb (length (held capacity es)) capacity && not (has (held capacity es) s)) (probes_evicted capacity es) (length es) (evicted_few es)
evicted_few (replied k p ∷ es) = omega (arith, evicted_few es)
evicted_few (observed o ∷ es) = omega (arith, evicted_few es)

pub unanswered_few : (es : List Event) → evicted_unanswered capacity es ≤ length es
unfolding evicted_unanswered
unanswered_few [] = omega arith
unanswered_few (remembered s o t p ∷ es) =
    tally_few (eqb (length (held capacity es)) capacity && not (has (held capacity es) s) && eqb (replies (oldest s (held capacity es)) es) 0) (evicted_unanswered capacity es) (length es) (unanswered_few es)
unanswered_few (replied k p ∷ es) = omega (arith, unanswered_few es)
unanswered_few (observed o ∷ es) = omega (arith, unanswered_few es)

pub trips_few : (es : List Event) → length (round_trips es) ≤ length es
unfolding round_trips
trips_few [] = omega arith
trips_few (remembered s o t p ∷ es) = omega (arith, trips_few es)
trips_few (replied k p ∷ es) = omega (arith, trips_few es)
trips_few (observed o ∷ es) = omega (arith, trips_few es)

-- ---- the matched follow-ups

by_few : (a b : Option ℤ) (offset : ℤ) (q : Option EstimatePair) (ms : List Measured) → length (with_times a b offset q ms) ≤ suc (length ms)
by_few (Some a) (Some b) offset q ms = omega arith
by_few (Some a) None offset q ms = omega arith
by_few None b offset q ms = omega arith

in_few : (s : Slot) (w : ℕ) (offset : ℤ) (ms : List Measured) → length (with_slot s w offset ms) ≤ suc (length ms)
in_few free w offset ms = omega arith
in_few (taken n None c) w offset ms = omega arith
in_few (taken n (Some r) c) w offset ms = by_few r.t4 (converted_in r w offset) offset r.quality ms

of_few : (copies : ℕ) (f : Option FollowUpTelemetry) (o : ReplyObservation) (es : List Event) (ms : List Measured) → length (with_follow capacity copies f o es ms) ≤ suc (length ms)
of_few copies None o es ms = omega arith
of_few copies (Some f) o es ms = go (same_follow matched (class_at capacity copies f o.key.reflector o.offset es))
  where
    go : (b : Bool) → length (cond b (with_slot (slot_at capacity copies es f.sequence) f.timestamp o.offset ms) ms) ≤ suc (length ms)
    go true = in_few (slot_at capacity copies es f.sequence) f.timestamp o.offset ms
    go false = omega arith

pub measured_few : (copies : ℕ) (es : List Event) → length (measured capacity copies es) ≤ length es
unfolding measured
measured_few copies [] = omega arith
measured_few copies (remembered s o t p ∷ es) = omega (arith, measured_few copies es)
measured_few copies (replied k p ∷ es) = omega (arith, measured_few copies es)
measured_few copies (observed o ∷ es) = omega (arith, measured_few copies es, of_few copies (follow_of o.follow) o es (measured capacity copies es))

pub delays_many : (ms : List Measured) → length (delays ms) ≡ length ms
unfolding delays
delays_many [] = refl
delays_many (m ∷ ms) = ap suc (delays_many ms)

pub estimates_many : (ms : List Measured) → length (estimates ms) ≡ length ms
unfolding estimates
estimates_many [] = refl
estimates_many (m ∷ ms) = ap suc (estimates_many ms)

counted_few : (b : Bool) (m n : ℕ) → m ≤ n → quality.counted b m ≤ suc n
counted_few true m n l = omega arith
counted_few false m n l = omega arith

pub samples_few : (test : quality.Class → Bool) (es : List (Option (ErrorEstimate × ErrorEstimate))) → samples.count test es ≤ length es
unfolding samples.count
samples_few test [] = omega arith
samples_few test (e ∷ es) = counted_few (test (samples.class_of e)) (samples.count test es) (length es) (samples_few test es)
