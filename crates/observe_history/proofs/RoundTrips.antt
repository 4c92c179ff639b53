-- Round trips follow from the served calls: a fresh ledger has them so, an observe adds its own, and no other call touches them. Assumes nothing.
use Rattle.std.specs.Prelude.{Option, None}
use mathlib.Core.Path.{◌≡◌, refl, sym, ap, ◌∙◌}
use mathlib.Core.Bool.{Bool, true, false, cond}
use mathlib.Core.List.{List, [], ◌∷◌}
use Prim.Native.Nat.{ℕ}
use lib.Dec.{ltb}
use lib.IntN.{ℤ, pos}
use Rattle.call_types.specs.declared.PendingPacket.{PendingPacket}
use Rattle.call_types.specs.declared.ReplyKey.{ReplyKey}
use Rattle.call_types.specs.declared.SentProbe.{SentProbe}
use Rattle.call_types.specs.declared.Reply.{Reply}
use Rattle.call_types.specs.declared.ReplyObservation.{ReplyObservation}
use Rattle.call_types.specs.declared.Call.{Call}
use Rattle.call_types.specs.declared.Call.TheVariants.{Sent, Accept, Observe, Advance, Idle}
use Rattle.delays.specs.declared.Delays.{Delays}
use Rattle.delays.specs.Sums.{nanoseconds_of}
use Rattle.delays.specs.Delays.{recorded_of, fresh}
use Rattle.delays.specs.Summary.{summary_of}
use Rattle.replies.specs.declared.ReplyClass.{ReplyClass}
use Rattle.replies.specs.declared.ReplyClass.TheVariants as class
use Rattle.replies.specs.Served.{class_by}
use Rattle.ledger_state.specs.declared.Ledger.{Ledger}
use Rattle.ledger_steps.specs.Sent.{sent_in}
use Rattle.ledger_steps.specs.Accept.{key_slot, probe_slot, is_pending, unique_in, accept_by, accept_in}
use Rattle.ledger_steps.specs.Observe.{observe_in}
use Rattle.history.specs.Counting.{has, or_else}
use Rattle.history.specs.Given.{packet_of}
use Rattle.history.specs.Ledger.{Event, remembered, no_packet, Class, duplicate, unknown, unique, held, ready, after_reply, reply_class, events}
use Rattle.history.specs.FollowUps.{round_trips}
use Rattle.history.specs.Figures.{figures_of, round_trip_figures}
use Rattle.observe_history.specs.RoundTrips.{delays_from, shown_from, RoundTripsFollow}
use Rattle.observe_history.proofs.Delays.{fresh-delays, one_delay_more, delays-shown}

-- ---- a reply adds no round trip

module _ (N : ℕ) where
  ready-trips : (es : List Event) (k : ReplyKey) (p : Option PendingPacket) → round_trips (ready N es k p) ≡ round_trips es
  unfolding ready round_trips
  ready-trips es k p = go (has (held N es) k.sender)
    where
      go : (b : Bool) → round_trips (cond b es (remembered k.sender None 0 (or_else p no_packet) ∷ es)) ≡ round_trips es
      go true = refl
      go false = refl

  reply-trips : (x : Class) (es : List Event) (k : ReplyKey) (p : Option PendingPacket) → round_trips (after_reply N x es k p) ≡ round_trips es
  unfolding after_reply round_trips
  reply-trips duplicate es k p = refl
  reply-trips unknown es k p = refl
  reply-trips unique es k p = ready-trips es k p

  accept-trips : (r : Reply) (h : List Call) → round_trips (events N (Accept r ∷ h)) ≡ round_trips (events N h)
  unfolding events
  accept-trips r h = reply-trips (reply_class N (events N h) r.key (packet_of r.pending)) (events N h) r.key (packet_of r.pending)

  -- ---- the laws

  pub trips-fresh : RoundTripsFollow N [] fresh
  unfolding events round_trips
  trips-fresh = fresh-delays

  module _ (by_key : ReplyKey → ℕ) (by_number : ℕ → ℕ) (h : List Call) (l : Ledger) (keys slots probes : List (List ℕ)) (offsets : List ℕ) (links : List (List ℕ))
      (f : RoundTripsFollow N h l.counts.rtt) where
    pub trips-observed : (o : ReplyObservation) → RoundTripsFollow N (Observe o ∷ h) (observe_in N by_key by_number l keys slots offsets links o).ledger.counts.rtt
    unfolding observe_in events round_trips
    trips-observed o = ap (λ (d : Delays). recorded_of d (nanoseconds_of (pos o.rtt))) f ∙ one_delay_more (round_trips (events N h)) (pos o.rtt)

    pub trips-sent : (s : SentProbe) → RoundTripsFollow N (Sent s ∷ h) (sent_in N by_number l probes links s).ledger.counts.rtt
    unfolding sent_in events round_trips
    trips-sent s = f

    accept_rtt : (x : ReplyClass) (at : ℕ) (a : Reply) → (accept_by N by_key by_number x l keys slots probes links at a).ledger.counts.rtt ≡ l.counts.rtt
    unfolding unique_in
    accept_rtt class.Duplicate at a = refl
    accept_rtt class.Unknown at a = refl
    accept_rtt class.Unique at a = refl

    pub trips-accepted : (a : Reply) → RoundTripsFollow N (Accept a ∷ h) (accept_in N by_key by_number l keys slots probes links a).ledger.counts.rtt
    unfolding accept_in
    trips-accepted a =
        accept_rtt
        (class_by (ltb (key_slot N by_key by_number l keys links a.key) N) (ltb (probe_slot N by_key by_number l probes links a.key) N) (is_pending a.pending))
        (probe_slot N by_key by_number l probes links a.key) a
        ∙ f ∙ ap (λ (zs : List ℤ). delays_from (figures_of zs)) (sym (accept-trips a h))

    pub trips-advanced : (t : ℕ) → RoundTripsFollow N (Advance t ∷ h) l.counts.rtt
    unfolding events
    trips-advanced t = f

    pub trips-idle : RoundTripsFollow N (Idle ∷ h) l.counts.rtt
    unfolding events
    trips-idle = f

    -- THE SUMMARY of the round trips is that of their list: how many, the least, the average and the greatest.
    pub trips-show : summary_of l.counts.rtt ≡ shown_from (round_trip_figures N h)
    trips-show = ap summary_of f ∙ delays-shown (round_trip_figures N h)
