-- Of the served calls: each round trip and each delay of a follow-up is below 2^64, so their sums stay small.
-- Assumes nothing.
use Rattle.std.specs.Prelude.{Some, None, Option}
use mathlib.Core.Path.{◌≡◌, sym, subst}
use mathlib.Core.Bool.{Bool, true, false, ◌&&◌, cond}
use mathlib.Core.List.{List, [], ◌∷◌}
use Prim.Native.Nat.{ℕ, zero, suc, ◌*◌, ◌^◌, ◌≤◌, ◌<◌}
use native.Mathlib.Nat.{mul-le-mul_right}
use native.Mathlib.Omega.{arith}
use lib.Dec.{eqb, ltb}
use lib.IntN.{ℤ, pos, negsuc, nat_abs, ◌+ℤ◌, ◌-ℤ◌, ◌*ℤ◌}
use lib.ListN.{length}
use borrow.Author.Tests.{leb-true}
use Rattle.limits.specs.Limits.{capacity}
use Rattle.call_types.specs.declared.ReplyKey.{ReplyKey}
use Rattle.call_types.specs.declared.FollowUpTelemetry.{FollowUpTelemetry}
use Rattle.call_types.specs.declared.PendingPacket.{PendingPacket}
use Rattle.call_types.specs.declared.ReplyObservation.{ReplyObservation}
use Rattle.call_types.specs.declared.Call.{Call}
use Rattle.call_types.specs.declared.Call.TheVariants.{Sent, Accept, Observe, Advance, Idle}
use Rattle.ranges.specs.Ranges.{time_fits, reference_within, offset_within, estimates_fit, in_range}
use Rattle.timestamps.specs.Converted.{converted}
use Rattle.timestamps.proofs.Outcome.{converted-fits}
use Rattle.correlation.proofs.Span.{nat_abs_add, nat_abs_sub, nat_abs_times}
use Rattle.floats.specs.Whole.{magnitude}
use Rattle.delays.specs.Sums.{sum_of}
use Rattle.replies.proofs.Tested.{both}
use Rattle.history.specs.Counting.{has, or_else}
use Rattle.history.specs.Given.{EstimatePair, packet_of, time_of, follow_of, estimates_of}
use Rattle.history.specs.Ledger.{Event, remembered, replied, observed, no_packet, accepted, held, Class, duplicate, unknown, unique, reply_class, ready, after_reply, events}
use Rattle.history.specs.FollowUps.{Kept, Slot, free, taken, record_of, raise, lower, correct, same_follow, matched, follow_class, class_at, evicting, following, converted_in, delay, Measured, with_times, with_slot, evicted, slot_at, with_follow, measured, round_trips}
use Rattle.history.specs.Figures.{total, delays}
use Rattle.ledger_steps.specs.Rooms.{LedgerStand}
use Rattle.observe_history.specs.Follows.{ServedAt}
use Rattle.link_steps.specs.Steps.{LinkStand, served}
use Rattle.link_history.specs.Fresh.{Fits, AllFits}
use Rattle.link_history.proofs.Calls.{played_keeps}

-- ---- what refusal 1 leaves of an observation

-- a time that is not outside ±4·10^18 ns
abbrev TimeIn : Option ℤ → Type 0
TimeIn None = Unit
TimeIn (Some z) = nat_abs z ≤ 4000000000000000000

pub record ObservedIn (o : ReplyObservation) : Type 0 where
  pub rtt_in : o.rtt < 2 ^ 64
  pub t4_in : TimeIn (time_of o.t4)
  pub offset_in : nat_abs o.offset ≤ 86400

time_in : (t : Option ℤ) → time_fits t ≡ true → TimeIn (time_of t)
time_in None e = tt
time_in (Some z) e = leb-true (nat_abs z) 4000000000000000000 e

-- what is converted is not outside either
converted_in_lem : (r : Kept) (w : ℕ) (offset : ℤ) → TimeIn (converted_in r w offset)
converted_in_lem r w offset = time_in (converted r.format w (r.reference +ℤ offset)) (converted-fits r.format w (r.reference +ℤ offset))

observed_in : (o : ReplyObservation) → o.rtt < 2 ^ 64 → in_range o ≡ true → ObservedIn o
unfolding in_range
observed_in o l e =
    let x = both (time_fits o.t4 && reference_within o.reference && offset_within o.offset) (estimates_fit o.quality) e in
    let y = both (time_fits o.t4 && reference_within o.reference) (offset_within o.offset) x.0 in
    let z = both (time_fits o.t4) (reference_within o.reference) y.0 in
    record { rtt_in = l; t4_in = time_in o.t4 z.0; offset_in = leb-true (nat_abs o.offset) 86400 y.1 }

-- of every observation of a history
unfoldable pub EventsIn : List Event → Type 0
EventsIn [] = Unit
EventsIn (remembered s o t p ∷ es) = EventsIn es
EventsIn (replied k p ∷ es) = EventsIn es
EventsIn (observed o ∷ es) = ObservedIn o × EventsIn es

ready_in : (es : List Event) (k : ReplyKey) (p : Option PendingPacket) → EventsIn es → EventsIn (ready capacity es k p)
unfolding ready EventsIn
ready_in es k p w = go (has (held capacity es) k.sender)
  where
    go : (b : Bool) → EventsIn (cond b es (remembered k.sender None 0 (or_else p no_packet) ∷ es))
    go true = w
    go false = w

reply_in : (x : Class) (es : List Event) (k : ReplyKey) (p : Option PendingPacket) → EventsIn es → EventsIn (after_reply capacity x es k p)
unfolding after_reply EventsIn
reply_in duplicate es k p w = w
reply_in unknown es k p w = w
reply_in unique es k p w = ready_in es k p w

-- a served observation is in range
stepped_in : (h : List Call) (s : LedgerStand) (c : Call) → AllFits h → Fits c → ServedAt capacity s c → EventsIn (events capacity h) → EventsIn (events capacity (c ∷ h))
unfolding events EventsIn
stepped_in h s (Sent p) w fits v g = g
stepped_in h s (Accept a) w fits v g = reply_in (reply_class capacity (events capacity h) a.key (packet_of a.pending)) (events capacity h) a.key (packet_of a.pending) g
stepped_in h s (Observe o) w fits v g = (observed_in o fits.0.rtt_in v.ranged, g)
stepped_in h s (Advance t) w fits v g = g
stepped_in h s Idle w fits v g = g

pub events_in : (k : LinkStand) (cs : List Call) → AllFits cs → EventsIn (events capacity (served k cs))
unfolding events EventsIn
events_in k cs w = played_keeps (λ h s. EventsIn (events capacity h)) k tt stepped_in cs w

-- ---- the sum of a list

abbrev pub AllIn : List ℤ → Type 0
AllIn [] = Unit
AllIn (z ∷ zs) = (nat_abs z ≤ 2 ^ 64) × AllIn zs

pub total_few : (zs : List ℤ) → AllIn zs → nat_abs (total zs) ≤ 18446744073709551616 * length zs
unfolding total
total_few [] w = omega arith
total_few (z ∷ zs) w = omega (arith, nat_abs_add (total zs) z, total_few zs w.1, w.0)

-- the two words of a sum say its magnitude
pub words-say : (z : ℤ) → magnitude (sum_of z).high (sum_of z).low ≡ nat_abs z
words-say (pos n) = omega arith
words-say (negsuc n) = omega arith

pub trips_in : (es : List Event) → EventsIn es → AllIn (round_trips es)
unfolding round_trips EventsIn
trips_in [] w = tt
trips_in (remembered s o t p ∷ es) w = trips_in es w
trips_in (replied k p ∷ es) w = trips_in es w
trips_in (observed o ∷ es) w = (omega (arith, w.0.rtt_in), trips_in es w.1)

-- ---- the slots

abbrev KeptIn : Option Kept → Type 0
KeptIn None = Unit
KeptIn (Some r) = TimeIn r.t4

abbrev SlotIn : Slot → Type 0
SlotIn free = Unit
SlotIn (taken n r c) = KeptIn r

raise_in : (r : Option Kept) (s : Slot) → KeptIn r → SlotIn (raise r s)
raise_in r free w = w
raise_in r (taken n x c) w = tt

lower_in : (s : Slot) → SlotIn s → SlotIn (lower s)
lower_in free w = tt
lower_in (taken zero r c) w = tt
lower_in (taken (suc zero) r c) w = tt
lower_in (taken (suc (suc n)) r c) w = w

correct_in : (s : Slot) → SlotIn s → SlotIn (correct s)
correct_in free w = tt
correct_in (taken n r c) w = w

either_in : (b : Bool) (s t : Slot) → SlotIn s → SlotIn t → SlotIn (cond b s t)
either_in true s t p q = p
either_in false s t p q = q

record_in : (copies : ℕ) (o : ReplyObservation) → ObservedIn o → KeptIn (record_of copies o)
record_in copies o w = go (ltb 1 copies && eqb o.key.sender o.key.reflector)
  where
    go : (b : Bool) → KeptIn (cond b None (Some (record { t4 = time_of o.t4; format = o.format; reference = o.reference; quality = estimates_of o.quality })))
    go true = tt
    go false = w.t4_in

evicting_in : (k : Option ReplyKey) (r : ℕ) (s : Slot) → SlotIn s → SlotIn (evicting k r s)
evicting_in None r s w = w
evicting_in (Some k) r s w = either_in (eqb r k.reflector) (lower s) s (lower_in s w) w

following_in : (f : Option FollowUpTelemetry) (own : ℕ) (offset : ℤ) (slot : ℕ → Slot) (r : ℕ) → SlotIn (slot r) → SlotIn (following f own offset slot r)
following_in None own offset slot r w = w
following_in (Some f) own offset slot r w =
    either_in (same_follow matched (follow_class f own offset (slot f.sequence)) && eqb r f.sequence) (correct (slot r)) (slot r) (correct_in (slot r) w) w

slot_in_lem : (copies : ℕ) (es : List Event) → EventsIn es → (r : ℕ) → SlotIn (slot_at capacity copies es r)
unfolding slot_at EventsIn
slot_in_lem copies [] w r = tt
slot_in_lem copies (remembered s o t p ∷ es) w r = slot_in_lem copies es w r
slot_in_lem copies (replied k p ∷ es) w r = evicting_in (evicted capacity copies (accepted es)) r (slot_at capacity copies es r) (slot_in_lem copies es w r)
slot_in_lem copies (observed o ∷ es) w r =
    let s : Slot = following (follow_of o.follow) o.key.reflector o.offset (slot_at capacity copies es) r in
    let i : SlotIn s = following_in (follow_of o.follow) o.key.reflector o.offset (slot_at capacity copies es) r (slot_in_lem copies es w.1 r) in
    either_in (eqb r o.key.reflector) (raise (record_of copies o) s) s (raise_in (record_of copies o) s (record_in copies o w.0)) i

-- ---- the delays

delay_few : (t4 t3 offset : ℤ) → nat_abs t4 ≤ 4000000000000000000 → nat_abs t3 ≤ 4000000000000000000 → nat_abs offset ≤ 86400 → nat_abs (delay t4 t3 offset) ≤ 2 ^ 64
delay_few t4 t3 offset a b c =
    let seconds : ℤ = offset *ℤ pos 1000000000 in
    let small : nat_abs seconds ≤ 86400000000000 = subst (λ (n : ℕ). n ≤ 86400000000000) (sym (nat_abs_times offset 1000000000)) (mul-le-mul_right 1000000000 c) in
    omega (arith, nat_abs_sub t4 (t3 -ℤ seconds), nat_abs_sub t3 seconds, small, a, b)

by_in : (a b : Option ℤ) (offset : ℤ) (q : Option EstimatePair) (ms : List Measured) → TimeIn a → TimeIn b → nat_abs offset ≤ 86400 → AllIn (delays ms) → AllIn (delays (with_times a b offset q ms))
unfolding delays
by_in (Some a) (Some b) offset q ms x y z w = (delay_few a b offset x y z, w)
by_in (Some a) None offset q ms x y z w = w
by_in None b offset q ms x y z w = w

in_in : (s : Slot) (w : ℕ) (offset : ℤ) (ms : List Measured) → SlotIn s → nat_abs offset ≤ 86400 → AllIn (delays ms) → AllIn (delays (with_slot s w offset ms))
in_in free w offset ms x z v = v
in_in (taken n None c) w offset ms x z v = v
in_in (taken n (Some r) c) w offset ms x z v = by_in r.t4 (converted_in r w offset) offset r.quality ms x (converted_in_lem r w offset) z v

of_in : (copies : ℕ) (f : Option FollowUpTelemetry) (o : ReplyObservation) (es : List Event) (ms : List Measured) → EventsIn es → nat_abs o.offset ≤ 86400 → AllIn (delays ms)
    → AllIn (delays (with_follow capacity copies f o es ms))
of_in copies None o es ms v z w = w
of_in copies (Some f) o es ms v z w = go (same_follow matched (class_at capacity copies f o.key.reflector o.offset es))
  where
    go : (b : Bool) → AllIn (delays (cond b (with_slot (slot_at capacity copies es f.sequence) f.timestamp o.offset ms) ms))
    go true = in_in (slot_at capacity copies es f.sequence) f.timestamp o.offset ms (slot_in_lem copies es v f.sequence) z w
    go false = w

pub delays_in : (copies : ℕ) (es : List Event) → EventsIn es → AllIn (delays (measured capacity copies es))
unfolding measured EventsIn delays
delays_in copies [] w = tt
delays_in copies (remembered s o t p ∷ es) w = delays_in copies es w
delays_in copies (replied k p ∷ es) w = delays_in copies es w
delays_in copies (observed o ∷ es) w =
    of_in copies (follow_of o.follow) o es (measured capacity copies es) w.1 w.0.offset_in (delays_in copies es w.1)
