-- Worked examples, each computed: what the definitions say of short lists of served calls. Lists are newest first.
use Rattle.std.specs.Prelude.{Some, None, Option}
use mathlib.Core.Path.{◌≡◌, refl}
use mathlib.Core.Bool.{Bool, true, false}
use mathlib.Core.List.{List, [], ◌∷◌}
use Prim.Native.Nat.{ℕ, zero, suc, ◌*◌, ◌^◌}
use lib.IntN.{ℤ, pos, negsuc}
use Rattle.estimate.specs.declared.ClockFormat.TheVariants.{PTP}
use Rattle.call_types.specs.declared.PendingPacket.{PendingPacket}
use Rattle.call_types.specs.declared.CounterPoint.{CounterPoint}
use Rattle.call_types.specs.declared.FollowUpTelemetry.{FollowUpTelemetry}
use Rattle.call_types.specs.declared.ReplyKey.{ReplyKey}
use Rattle.call_types.specs.declared.ReplyObservation.{ReplyObservation}
use Rattle.call_types.specs.declared.Call.{Call}
use Rattle.call_types.specs.declared.Call.TheVariants.{Sent, Accept, Observe}
use Rattle.timestamps.specs.Converted.{converted, second_near}
use Rattle.history.specs.Counting.{has, offset}
use Rattle.history.specs.Ledger.{rememberings, without, distinct, replies, ordinal, packet, accepted, has_key, awaiting, last_accepted, oldest, train, held, reply_class, ready, after_reply, events, Answer, is_unique, answer, count, highest_reflector, behind, probes_evicted, evicted_unanswered, reply_counts, thousandths, unobserved}
use Rattle.history.specs.FollowUps.{Slot, free, taken, follow_class, slot_at, FollowClass, unavailable, ambiguous, unmatched, repeated, matched, class_at, follow_counts, measured, with_slot, delay}
use Rattle.history.specs.DirectLoss.{anchor_of, received_maximum, latest, missing, DirectClass, mismatch, zeros, anchors, jump, again, exceeded, reordered, advanced, direct_class, window, spans, Spans}

-- ---- short ways to write calls

abbrev key : ℕ → ℕ → ℕ → ReplyKey
key s r t = record { sender = s; reflector = r; t3 = t }

abbrev packet_at : ℕ → PendingPacket
packet_at n = record { time = n; tag = 0 }

abbrev sent_on : ℕ → ℕ → ℕ → Call
sent_on t s n = Sent (record { sequence = s; ordinal = n; train = t; packet = packet_at n })

-- with no train
abbrev sent : ℕ → ℕ → Call
sent = sent_on 0

abbrev accept : ReplyKey → Option PendingPacket → Call
accept k p = Accept (record { key = k; pending = p })

abbrev point : ℕ → ℕ → ℕ → CounterPoint
point s r t = record { sender = record { 0 = s }; received = record { 0 = r }; transmitted = record { 0 = t } }

-- an observation with a round trip of 50, T4 at 900, PTP, reference 7, and these counters and this follow-up
abbrev seen_by : ReplyKey → Option CounterPoint → Option FollowUpTelemetry → ReplyObservation
seen_by k c f = record {
  key = k;
  rtt = 50;
  t4 = Some (pos 900);
  format = PTP;
  reference = pos 7;
  offset = pos 0;
  ordinal = Some k.sender;
  counters = c;
  follow = f;
  quality = None;
}

abbrev observe : ReplyKey → Option CounterPoint → Option FollowUpTelemetry → Call
observe k c f = Observe (seen_by k c f)

-- a follow-up of a sequence, with this raw timestamp
abbrev follow_up : ℕ → ℕ → FollowUpTelemetry
follow_up s w = record { sequence = s; timestamp = w; unknown = false }

-- ---- document 01's listing: sent 7, accept (7,7,5) pending, observe, the same accept again

abbrev pub listing : List Call
listing = accept (key 7 7 5) None ∷ observe (key 7 7 5) None None ∷ accept (key 7 7 5) (Some (packet_at 100)) ∷ sent 7 1 ∷ []

listing_counts : reply_counts 4096 1 listing ≡ record {
  requested = 1;
  satisfied = 1;
  duplicate = 1;
  unknown = 0;
  unique = 1;
  answered = 1;
  additional = 0;
  late = 0;
  reordered = 0;
  independent = 0;
  probes-evicted = 0;
  replies-evicted = 0;
  evicted-unanswered = 0;
}
unfolding count events reply_class last_accepted held ready after_reply accepted rememberings distinct without has_key has replies highest_reflector probes_evicted evicted_unanswered oldest offset
listing_counts = refl

-- ---- capacity 2: the probe 1 is evicted by 2 and 3, its reply is then unknown, and a pending packet brings it back, answered anew

abbrev evictions : List Call
evictions = accept (key 1 9 9) (Some (packet_at 4)) ∷ accept (key 1 8 8) None ∷ sent 3 3 ∷ sent 2 2 ∷ accept (key 1 7 7) None ∷ sent 1 1 ∷ []

evictions_counts : reply_counts 2 1 evictions ≡ record {
  requested = 3;
  satisfied = 2;
  duplicate = 0;
  unknown = 1;
  unique = 2;
  answered = 2;
  additional = 0;
  late = 1;
  reordered = 0;
  independent = 2;
  probes-evicted = 2;
  replies-evicted = 0;
  evicted-unanswered = 1;
}
unfolding count events reply_class last_accepted held ready after_reply accepted rememberings distinct without has_key has replies highest_reflector probes_evicted evicted_unanswered oldest offset
evictions_counts = refl

evictions_held : held 2 (events 2 evictions) ≡ 1 ∷ 3 ∷ []
unfolding events reply_class last_accepted held ready after_reply accepted rememberings distinct without has_key has
evictions_held = refl

-- the answer: a pending packet replaces the stored one, and an accept without one hands the stored one back with its ordinal
answers : (answer 2 (events 2 (sent 5 9 ∷ [])) (key 5 5 1) (Some (packet_at 4)) ≡ is_unique (packet_at 4) (Some 9) 0)
    × (answer 2 (events 2 (accept (key 5 5 1) (Some (packet_at 4)) ∷ sent 5 9 ∷ [])) (key 5 6 2) None ≡ is_unique (packet_at 4) (Some 9) 0)
    × (answer 2 [] (key 5 5 1) (Some (packet_at 4)) ≡ is_unique (packet_at 4) None 0)
unfolding answer events reply_class last_accepted held ready after_reply accepted rememberings distinct without has_key has packet ordinal train
answers = (refl, refl, refl)

-- capacity 2: a key is a duplicate while it is one of the last two accepted, and unique again after two more
abbrev forgotten : List Call
forgotten = accept (key 1 1 1) None ∷ accept (key 1 3 3) None ∷ accept (key 1 1 1) None ∷ accept (key 1 2 2) None ∷ accept (key 1 1 1) None ∷ sent 1 1 ∷ []

forgotten_counts : reply_counts 2 3 forgotten ≡ record {
  requested = 3;
  satisfied = 3;
  duplicate = 1;
  unknown = 0;
  unique = 4;
  answered = 1;
  additional = 3;
  late = 1;
  reordered = 1;
  independent = 2;
  probes-evicted = 0;
  replies-evicted = 2;
  evicted-unanswered = 0;
}
unfolding count events reply_class last_accepted held ready after_reply accepted rememberings distinct without has_key has replies highest_reflector probes_evicted evicted_unanswered oldest offset
forgotten_counts = refl

-- a held probe that is remembered again becomes the newest, and evicts none; the next one evicts the older of the two
abbrev again_first : List Call
again_first = sent 1 3 ∷ sent 2 2 ∷ sent 1 1 ∷ []

remembered_again : (held 2 (events 2 again_first) ≡ 1 ∷ 2 ∷ [])
    × (probes_evicted 2 (events 2 again_first) ≡ 0)
    × (held 2 (events 2 (sent 3 4 ∷ again_first)) ≡ 3 ∷ 1 ∷ [])
    × (probes_evicted 2 (events 2 (sent 3 4 ∷ again_first)) ≡ 1)
unfolding events held rememberings distinct without probes_evicted has
remembered_again = (refl, refl, refl, refl)

-- ---- which train was passing (document 02, Q-3), at capacity 2

-- the train is handed back with the answer, by a later reply too; sent again, a sequence has the new one, and a probe remembered by accept has 0
trains : (answer 2 (events 2 (sent_on 44 5 9 ∷ [])) (key 5 5 1) None ≡ is_unique (packet_at 9) (Some 9) 44)
    × (answer 2 (events 2 (accept (key 5 5 1) None ∷ sent_on 55 6 2 ∷ sent_on 44 5 9 ∷ [])) (key 5 6 2) (Some (packet_at 4)) ≡ is_unique (packet_at 4) (Some 9) 44)
    × (answer 2 (events 2 (sent_on 66 5 3 ∷ sent_on 44 5 9 ∷ [])) (key 5 5 1) None ≡ is_unique (packet_at 3) (Some 3) 66)
    × (answer 2 (events 2 (sent_on 0 5 3 ∷ sent_on 44 5 9 ∷ [])) (key 5 5 1) None ≡ is_unique (packet_at 3) (Some 3) 0)
    × (answer 2 (events 2 (sent_on 8 2 8 ∷ sent_on 7 1 7 ∷ sent_on 44 5 9 ∷ [])) (key 5 5 1) (Some (packet_at 4)) ≡ is_unique (packet_at 4) None 0)
unfolding answer events reply_class last_accepted held ready after_reply accepted rememberings distinct without has_key has packet ordinal train
trains = (refl, refl, refl, refl, refl)

-- the probes 1 and 2 are held; 1 is the oldest
abbrev two : List Call
two = sent 2 2 ∷ sent 1 1 ∷ []

-- evicted by `sent`; by an accept with a pending packet; answered before; sent again, which evicts none; sent again and then evicted, its old reply forgotten
lost-probes : (evicted_unanswered 2 (events 2 (sent 3 3 ∷ two)) ≡ 1)
    × (evicted_unanswered 2 (events 2 (accept (key 3 3 3) (Some (packet_at 4)) ∷ two)) ≡ 1)
    × (evicted_unanswered 2 (events 2 (sent 3 3 ∷ accept (key 1 1 1) None ∷ two)) ≡ 0)
    × (evicted_unanswered 2 (events 2 (sent 3 3 ∷ accept (key 2 2 2) None ∷ two)) ≡ 1)
    × (evicted_unanswered 2 (events 2 (sent 1 3 ∷ two)) ≡ 0)
    × (evicted_unanswered 2 (events 2 (sent 3 5 ∷ sent 2 4 ∷ sent 1 3 ∷ accept (key 1 1 1) None ∷ two)) ≡ 1)
    × (evicted_unanswered 2 (events 2 (accept (key 3 3 3) None ∷ two)) ≡ 0)
unfolding events reply_class last_accepted held ready after_reply accepted rememberings distinct without has_key has replies evicted_unanswered oldest
lost-probes = (refl, refl, refl, refl, refl, refl, refl)

-- the last accepted key awaits its observe, until it is observed
awaits : (awaiting (events 2 (accept (key 5 6 1) None ∷ sent 5 9 ∷ [])) ≡ Some (key 5 6 1))
    × (awaiting (events 2 (observe (key 5 6 1) None None ∷ accept (key 5 6 1) None ∷ sent 5 9 ∷ [])) ≡ None)
unfolding awaiting events reply_class last_accepted held ready after_reply accepted rememberings distinct without has_key has
awaits = (refl, refl)

-- a step of 2^31 - 1 makes a new highest reflector number, one of 2^31 is behind
half_range : (highest_reflector (key 1 2147483647 2 ∷ key 1 0 1 ∷ []) ≡ Some 2147483647) × (highest_reflector (key 1 2147483648 2 ∷ key 1 0 1 ∷ []) ≡ Some 0)
    × (behind 2147483647 (Some 0) ≡ false)
    × (behind 2147483648 (Some 0) ≡ true)
unfolding highest_reflector offset
half_range = (refl, refl, refl, refl)

thousandths_of : (thousandths 3 (unobserved 3 2) ≡ Some 333) × (thousandths 0 (unobserved 0 0) ≡ None) × (thousandths 2 (unobserved 2 5) ≡ Some 0)
thousandths_of = (refl, refl, refl)

-- ---- every class of a follow-up, after probe 1 was sent, answered with reflector number 11 and observed

abbrev pub one : List Call
one = observe (key 1 11 5) None None ∷ accept (key 1 11 5) None ∷ sent 1 1 ∷ []

-- the class of a follow-up of an observation of reflector number 12
abbrev class_after : FollowUpTelemetry → List Call → FollowClass
class_after f h = class_at 4 1 f 12 (pos 0) (events 4 h)

is_matched : class_after (follow_up 11 800) one ≡ matched
unfolding converted second_near follow_class slot_at events reply_class last_accepted held ready after_reply accepted rememberings distinct without has_key has
is_matched = refl

-- no conversion: 10^9 in the ns field
is_unavailable : class_after (follow_up 11 1000000000) one ≡ unavailable
unfolding converted second_near follow_class slot_at events reply_class last_accepted held ready after_reply accepted rememberings distinct without has_key has
is_unavailable = refl

-- no timestamp comes first
is_unavailable-first : class_after (record { sequence = 12; timestamp = 0; unknown = false }) one ≡ unavailable
unfolding converted second_near follow_class
is_unavailable-first = refl

-- a follow-up of the reply that brings it
is_ambiguous_own : class_after (follow_up 12 1) one ≡ ambiguous
unfolding converted second_near follow_class
is_ambiguous_own = refl

is_unmatched : class_after (follow_up 99 1) one ≡ unmatched
unfolding converted second_near follow_class slot_at events reply_class last_accepted held ready after_reply accepted rememberings distinct without has_key has
is_unmatched = refl

-- an unavailable one leaves its slot uncorrected, for a later one to match
stays_open : class_after (follow_up 11 800) (observe (key 1 12 6) None (Some (follow_up 11 1000000000)) ∷ accept (key 1 12 6) None ∷ one) ≡ matched
unfolding converted second_near follow_class slot_at events reply_class last_accepted held ready after_reply accepted rememberings distinct without has_key has
stays_open = refl

-- matched once, its slot is corrected
abbrev pub corrected : List Call
corrected = observe (key 1 12 6) None (Some (follow_up 11 800)) ∷ accept (key 1 12 6) None ∷ one

is_repeated : class_after (follow_up 11 1) corrected ≡ repeated
unfolding converted second_near follow_class slot_at events reply_class last_accepted held ready after_reply accepted rememberings distinct without has_key has
is_repeated = refl

-- its delay is 900 - 800
corrected_delay : measured 4 1 (events 4 corrected) ≡ record { delay_ns = pos 100; quality = None } ∷ []
unfolding converted second_near measured follow_class slot_at events reply_class last_accepted held ready after_reply accepted rememberings distinct without has_key has
corrected_delay = refl

-- a second observation of number 11 makes it ambiguous, also after an eviction lowered the count to 1 again: the record is dropped for good
abbrev twice : List Call
twice = observe (key 1 11 6) None None ∷ accept (key 1 11 6) None ∷ one

is_ambiguous_twice : class_after (follow_up 11 800) twice ≡ ambiguous
unfolding converted second_near follow_class slot_at events reply_class last_accepted held ready after_reply accepted rememberings distinct without has_key has
is_ambiguous_twice = refl

lowered : (slot_at 2 1 (events 2 (accept (key 1 14 7) None ∷ twice)) 11 ≡ taken 1 None false)
    × (slot_at 2 1 (events 2 (accept (key 1 15 8) None ∷ accept (key 1 14 7) None ∷ twice)) 11 ≡ free)
unfolding slot_at events reply_class last_accepted held ready after_reply accepted rememberings distinct without has_key has
lowered = (refl, refl)

-- with copies above 1 the record of an echoed sequence is withheld, and with one copy it is kept
abbrev echoed : List Call
echoed = observe (key 1 1 5) None None ∷ accept (key 1 1 5) None ∷ sent 1 1 ∷ []

withheld : (slot_at 4 2 (events 4 echoed) 1 ≡ taken 1 None false)
    × (slot_at 4 1 (events 4 echoed) 1 ≡ taken 1 (Some (record { t4 = Some (pos 900); format = PTP; reference = pos 7; quality = None })) false)
unfolding slot_at events reply_class last_accepted held ready after_reply accepted rememberings distinct without has_key has
withheld = (refl, refl)

-- the offset moves the window of the timestamp: 2^31 + 7 s is near 7 + 1 s, and the delay is 900 - (T3 - 10^9)
offset-added : with_slot (taken 1 (Some (record { t4 = Some (pos 900); format = PTP; reference = pos 7; quality = None })) false) (2147483655 * 2 ^ 32) (pos 1) []
    ≡ record { delay_ns = negsuc 2147483653999999099; quality = None } ∷ []
unfolding converted second_near
offset-added = refl

delays : (delay (pos 900) (pos 800) (negsuc 0) ≡ negsuc 999999899) × (delay (pos 0) (pos 5) (pos 0) ≡ negsuc 4)
delays = (refl, refl)

-- ---- every outcome of direct counters, after a window of points, newest first

abbrev class : List CounterPoint → CounterPoint → DirectClass
class w c = direct_class 3 (Some c.sender.0) c w

anchored : class [] (point 10 10 10) ≡ anchors
unfolding direct_class
anchored = refl

both_zero : class [] (point 10 0 0) ≡ zeros
unfolding direct_class
both_zero = refl

-- the sender's count is not the ordinal
mismatched : direct_class 3 (Some 4) (point 10 10 10) [] ≡ mismatch
unfolding direct_class
mismatched = refl

-- a step back of one counter
stepped-back : class (point 10 10 10 ∷ []) (point 11 9 11) ≡ jump
unfolding direct_class anchor_of offset
stepped-back = refl

-- each offset below 2^31 goes on, each at 2^31 breaks
half_steps : (class (point 10 10 10 ∷ []) (point 11 11 2147483657) ≡ advanced)
    × (class (point 10 10 10 ∷ []) (point 11 11 2147483658) ≡ jump)
    × (class (point 10 10 10 ∷ []) (point 11 2147483658 11) ≡ jump)
    × (class (point 10 10 10 ∷ []) (point 2147483658 11 11) ≡ jump)
unfolding direct_class anchor_of offset has
half_steps = (refl, refl, refl, refl)

seen_again : class (point 10 10 10 ∷ []) (point 11 11 10) ≡ again
unfolding direct_class anchor_of offset has
seen_again = refl

-- three offsets were seen, and three is what is held
no_room : class (point 12 12 12 ∷ point 11 11 11 ∷ point 10 10 10 ∷ []) (point 13 13 13) ≡ exceeded
unfolding direct_class anchor_of offset has
no_room = refl

wraps : class (point 4294967295 4294967295 4294967295 ∷ []) (point 0 0 0) ≡ advanced
unfolding direct_class anchor_of offset has
wraps = refl

-- document 01's examples 7 and 8: anchor (10,10,10), then (12,12,13), then (11,11,11)
abbrev seven : List CounterPoint
seven = point 12 12 13 ∷ point 10 10 10 ∷ []

pub example_7 : spans seven ≡ Some (record {
  sender_packets = 2;
  reflector_received = 2;
  forward_missing = Some 0;
  reflector_transmitted = 3;
  replies_received = 1;
  reverse-missing = 2;
})
unfolding spans anchor_of offset received_maximum missing has
example_7 = refl

pub example_8 : (class seven (point 11 11 11) ≡ reordered)
    × (spans (point 11 11 11 ∷ seven) ≡ Some (record {
      sender_packets = 2;
      reflector_received = 2;
      forward_missing = Some 0;
      reflector_transmitted = 3;
      replies_received = 2;
      reverse-missing = 1;
    }))
unfolding direct_class spans anchor_of offset received_maximum missing has
example_8 = (refl, refl)

-- more received than sent: forward missing is absent, reverse missing is still shown
forward_absent : spans (point 11 13 12 ∷ point 10 10 10 ∷ []) ≡ Some (record {
  sender_packets = 1;
  reflector_received = 3;
  forward_missing = None;
  reflector_transmitted = 2;
  replies_received = 1;
  reverse-missing = 1;
})
unfolding spans anchor_of offset received_maximum missing has
forward_absent = refl

-- what broke continuity is not the new anchor
cleared : window 4 (events 4 (
    observe (key 1 12 6) (Some (point 1 10 10)) None ∷ accept (key 1 12 6) None
    ∷ observe (key 1 11 5) (Some (point 1 10 10)) None ∷ accept (key 1 11 5) None ∷ sent 1 1 ∷ [])) ≡ []
unfolding window direct_class anchor_of offset events reply_class last_accepted held ready after_reply accepted rememberings distinct without has_key has
cleared = refl
