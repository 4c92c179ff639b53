-- From a fresh ledger over any rooms of the right size, after any served calls: what observes leave, and what is shown of it, follows from
-- the list of those calls. Assumes nothing.
use mathlib.Core.Path.{◌≡◌, refl, ap, ◌∙◌}
use mathlib.Core.Bool.{Bool, true, false, ◌&&◌}
use mathlib.Core.List.{List, [], ◌∷◌}
use Prim.Native.Nat.{ℕ, ◌^◌, ◌<◌}
use native.Mathlib.Omega.{arith}
use Rattle.limits.specs.Limits.{capacity}
use Rattle.call_types.specs.declared.ReplyKey.{ReplyKey}
use Rattle.call_types.specs.declared.ReplyObservation.{ReplyObservation}
use Rattle.call_types.specs.declared.Call.{Call}
use Rattle.call_types.specs.declared.Call.TheVariants.{Sent, Accept, Observe, Advance, Idle}
use Rattle.chains.specs.Hash.{number_hash}
use Rattle.chains.proofs.Hashes.{key_hash-below, number_hash-below}
use Rattle.chains.proofs.Tests.{true_not_false}
use Rattle.delays.specs.Summary as delays
use Rattle.direct.specs.Shown as direct
use Rattle.follow_ups.specs.Shown as follow_ups
use Rattle.key_ring.specs.Keys.{numbers_of}
use Rattle.key_ring.specs.Table.{newest_is, hash_of}
use Rattle.history.specs.Ledger.{copies_of}
use Rattle.history.specs.Figures.{round_trip_figures, delay_figures}
use Rattle.ledger_steps.specs.Rooms.{Rooms, LedgerStand}
use Rattle.ledger_steps.specs.Observe.{observe_in}
use Rattle.reply_history.specs.Fits.{CallFits, AllFit}
use Rattle.reply_history.specs.Stands.{RoomsFit, fresh_stand, with_observe, observe_of, stepped, stepped_all}
use Rattle.reply_history.specs.Follows.{RepliesFollow}
use Rattle.reply_history.proofs.Steps.{replies-follow}
use Rattle.observe_history.specs.Direct.{summary_from}
use Rattle.observe_history.specs.RoundTrips.{shown_from}
use Rattle.observe_history.specs.FollowUps.{FollowsFollow}
use Rattle.observe_history.specs.Follows.{ObserveServed, ServedAt, AllServed, ObservesFollow, follow_shown_from}
use Rattle.observe_history.proofs.Delays.{delays-shown}
use Rattle.observe_history.proofs.DirectElsewhere.{direct-fresh, direct-sent, direct-accepted, direct-kept, direct-advanced, direct-idle}
use Rattle.observe_history.proofs.DirectShown.{direct-shows}
use Rattle.observe_history.proofs.RoundTrips.{trips-fresh, trips-sent, trips-accepted, trips-observed, trips-advanced, trips-idle, trips-show}
use Rattle.observe_history.proofs.FollowObserve.{slots_follow, figures_follow}
use Rattle.observe_history.proofs.FollowCalls.{follows_fresh, follows_sent, follows_accepted, follows_advanced, follows_idle}

-- ---- an observe of the awaiting key

both : (a b : Bool) → (a && b) ≡ true → (a ≡ true) × (b ≡ true)
both true true e = (refl, refl)
both true false e = absurd (true_not_false e refl)
both false b e = absurd (true_not_false e refl)

module _ (N : ℕ) (few : N < 65535) (by_key : ReplyKey → ℕ) (by_number : ℕ → ℕ) (number-below : (n : ℕ) → by_number n < N) (copies : ℕ) (h : List Call) (s : LedgerStand) (o : ReplyObservation)
    (r : RepliesFollow N by_key by_number copies h s) (v : ObserveServed N s o) (f : FollowsFollow N copies h s) where
  abbrev tests : (s.ledger.tables.awaits ≡ true) × (newest_is N s.rooms.keys s.ledger.tables.keys o.key ≡ true)
  tests = both s.ledger.tables.awaits (newest_is N s.rooms.keys s.ledger.tables.keys o.key) v.awaiting

  pub follows_observed : FollowsFollow N copies (Observe o ∷ h) (with_observe s (observe_of N by_key by_number s o))
  unfolding observe_in
  follows_observed = record {
    figures = figures_follow N few by_key by_number number-below copies h s.ledger s.rooms.keys s.rooms.slots s.rooms.offsets s.rooms.links o r.copies_are r.keys_sound
        tests.0 tests.1 v.ranged v.quality-fits f.figures f.slots;
    slots = slots_follow N few by_key by_number number-below copies h s.ledger s.rooms.keys s.rooms.slots s.rooms.offsets s.rooms.links o r.copies_are r.keys_sound
        tests.0 tests.1 v.ranged v.quality-fits f.figures f.slots;
  }

-- ---- one served call, and all

module _ (N : ℕ) (some-room : 0 < N) (few : N < 65535) (by_key : ReplyKey → ℕ) (by_number : ℕ → ℕ) (key_below : (k : ReplyKey) → by_key k < N) (number-below : (n : ℕ) → by_number n < N)
    (copies : ℕ) where
  pub observes-fresh : (wanted : ℕ) (secret : List ℕ) (r : Rooms) → RoomsFit N r → ObservesFollow N by_number copies [] (fresh_stand wanted secret r)
  observes-fresh wanted secret r fit = record {
    direct = direct-fresh N by_number r.offsets r.links some-room number-below fit.offsets_fit fit.links_fit;
    round_trips = trips-fresh N;
    follow_ups = follows_fresh N copies wanted secret r;
  }

  module _ (h : List Call) (s : LedgerStand) (r : RepliesFollow N by_key by_number copies h s) (f : ObservesFollow N by_number copies h s) where
    -- ONE SERVED CALL MORE, where what the ledger shows of replies follows too.
    pub observes-stepped : (c : Call) → CallFits c → ServedAt N s c → ObservesFollow N by_number copies (c ∷ h) (stepped N by_key by_number s c)
    observes-stepped (Sent p) fits v = record {
      direct = direct-sent N by_number by_key h s.ledger s.rooms.keys s.rooms.slots s.rooms.probes s.rooms.offsets s.rooms.links f.direct p;
      round_trips = trips-sent N by_key by_number h s.ledger s.rooms.keys s.rooms.slots s.rooms.probes s.rooms.offsets s.rooms.links f.round_trips p;
      follow_ups = follows_sent N copies by_key by_number h s f.follow_ups p;
    }
    observes-stepped (Accept a) fits v = record {
      direct = direct-accepted N by_number by_key h s.ledger s.rooms.keys s.rooms.slots s.rooms.probes s.rooms.offsets s.rooms.links f.direct a;
      round_trips = trips-accepted N by_key by_number h s.ledger s.rooms.keys s.rooms.slots s.rooms.probes s.rooms.offsets s.rooms.links f.round_trips a;
      follow_ups = follows_accepted N copies some-room by_key by_number key_below number-below h s a fits r f.follow_ups;
    }
    observes-stepped (Observe o) fits v = record {
      direct = direct-kept N by_number by_key h s.ledger s.rooms.keys s.rooms.slots s.rooms.probes s.rooms.offsets s.rooms.links f.direct o;
      round_trips = trips-observed N by_key by_number h s.ledger s.rooms.keys s.rooms.slots s.rooms.probes s.rooms.offsets s.rooms.links f.round_trips o;
      follow_ups = follows_observed N few by_key by_number number-below copies h s o r v f.follow_ups;
    }
    observes-stepped (Advance t) fits v = record {
      direct = direct-advanced N by_number by_key h s.ledger s.rooms.keys s.rooms.slots s.rooms.probes s.rooms.offsets s.rooms.links f.direct t;
      round_trips = trips-advanced N by_key by_number h s.ledger s.rooms.keys s.rooms.slots s.rooms.probes s.rooms.offsets s.rooms.links f.round_trips t;
      follow_ups = follows_advanced N copies by_key by_number h s f.follow_ups t;
    }
    observes-stepped Idle fits v = record {
      direct = direct-idle N by_number by_key h s.ledger s.rooms.keys s.rooms.slots s.rooms.probes s.rooms.offsets s.rooms.links f.direct;
      round_trips = trips-idle N by_key by_number h s.ledger s.rooms.keys s.rooms.slots s.rooms.probes s.rooms.offsets s.rooms.links f.round_trips;
      follow_ups = follows_idle N copies by_key by_number h s f.follow_ups;
    }

    -- WHAT IS SHOWN is what the history calls for: the round trips, direct loss with reverse missing, and the follow-ups.
    pub shown_follows : (delays.summary_of s.ledger.counts.rtt ≡ shown_from (round_trip_figures N h)) × (direct.summary_of s.ledger.counts.direct ≡ summary_from N h)
        × (follow_ups.summary_of s.ledger.counts.follow ≡ follow_shown_from N copies h)
    shown_follows = (
      trips-show N by_key by_number h s.ledger s.rooms.keys s.rooms.slots s.rooms.probes s.rooms.offsets s.rooms.links f.round_trips,
      direct-shows N by_number h s.ledger.counts.direct s.rooms.offsets s.rooms.links f.direct,
      λ i. record {
        counts = f.follow_ups.figures.counts i;
        delay = (ap delays.summary_of f.follow_ups.figures.delay ∙ delays-shown (delay_figures N copies h)) i;
        quality = f.follow_ups.figures.quality i;
      },
    )

-- ---- at 4,096, with the hashes of the code

module _ (copies : ℕ) (secret : List ℕ) (r : Rooms) (l : copies < 2 ^ 16) (fit : RoomsFit capacity r) where
  -- the ledger after these calls
  abbrev pub ledger_after : List Call → LedgerStand
  ledger_after h = stepped_all capacity (hash_of secret) (number_hash secret) (fresh_stand copies secret r) h

  key_below : (k : ReplyKey) → hash_of secret k < capacity
  key_below k = key_hash-below secret (numbers_of k) k.t3

  -- WHATEVER THE ROOMS HELD AND WHATEVER WAS SERVED: what observes leave follows from the served calls.
  pub observes-follow : (h : List Call) → AllFit h → AllServed capacity (hash_of secret) (number_hash secret) (fresh_stand copies secret r) h
      → ObservesFollow capacity (number_hash secret) (copies_of copies) h (ledger_after h)
  unfolding stepped_all AllFit AllServed
  observes-follow [] w v = observes-fresh capacity (omega arith) (omega arith) (hash_of secret) (number_hash secret) key_below (number_hash-below secret) (copies_of copies) copies secret r fit
  observes-follow (c ∷ h) w v =
      observes-stepped capacity (omega arith) (omega arith) (hash_of secret) (number_hash secret) key_below (number_hash-below secret) (copies_of copies) h (ledger_after h)
      (replies-follow copies secret r h l fit w.1) (observes-follow h w.1 v.1) c w.0 v.0
