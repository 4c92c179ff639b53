-- Follow-ups follow from the served calls, of a ledger with its rooms: fresh, and after each call but observe. Assumes nothing.
use Rattle.std.specs.Prelude.{Option, None}
use mathlib.Core.Path.{◌≡◌, refl, sym, ap, ◌∙◌}
use mathlib.Core.Bool.{Bool, true, false, cond}
use mathlib.Core.List.{List, [], ◌∷◌}
use Prim.Native.Nat.{ℕ, ◌<◌}
use native.Mathlib.Omega.{arith}
use Rattle.call_types.specs.declared.PendingPacket.{PendingPacket}
use Rattle.call_types.specs.declared.ReplyKey.{ReplyKey}
use Rattle.call_types.specs.declared.SentProbe.{SentProbe}
use Rattle.call_types.specs.declared.Reply.{Reply}
use Rattle.call_types.specs.declared.Call.{Call}
use Rattle.call_types.specs.declared.Call.TheVariants.{Sent, Accept, Advance, Idle}
use Rattle.chains.specs.declared.Ring.{Ring}
use Rattle.chains.specs.Rings.{contents}
use Rattle.chains.specs.Walk.{first_of}
use Rattle.chains.proofs.Tests.{true_not_false}
use Rattle.correlation.specs.Words.{slot_of}
use Rattle.key_ring.specs.Table.{Table, table_of, rows_of}
use Rattle.key_ring.proofs.Holders.{empty-counted}
use Rattle.key_ring.specs.Table as key_ring
use Rattle.probe_ring.specs.Rooms as probe_ring
use Rattle.history.specs.Counting.{has, or_else}
use Rattle.history.specs.Given.{packet_of}
use Rattle.history.specs.Ledger.{Event, remembered, no_packet, Class, duplicate, unknown, unique, last_accepted, held, ready, after_reply, reply_class, events, count}
use Rattle.history.specs.FollowUps.{slot_at, Measured, measured}
use Rattle.history.specs.Figures.{delays, estimates, figures_of, quality_of}
use Rattle.ledger_steps.specs.Rooms.{Rooms, LedgerStand}
use Rattle.ledger_steps.specs.Sent.{sent_in}
use Rattle.ledger_steps.specs.Accept.{readied, unique_in}
use Rattle.reply_history.specs.Fits.{KeyFits}
use Rattle.reply_history.specs.Stands.{fresh_stand, with_sent, with_accept, sent_of, accept_of}
use Rattle.reply_history.specs.Follows.{probe_rooms, RepliesFollow}
use Rattle.reply_history.proofs.Classes.{by, accept_by_class}
use Rattle.observe_history.specs.RoundTrips.{delays_from}
use Rattle.observe_history.specs.FollowUps.{FiguresFollow, SlotsFollow, FollowsFollow}
use Rattle.observe_history.proofs.Lanes.{Untouched, still_rows, still-whole, readied_elsewhere}
use Rattle.observe_history.proofs.Delays.{fresh-delays}
use Rattle.observe_history.proofs.Quality.{fresh-quality}
use Rattle.observe_history.proofs.FollowAccept.{slots_accepted, fit_accepted, counted-accepted, unobserved-accepted}

-- the rooms of the keys are sound over links whose lanes of the keys are untouched
still_sound : (N : ℕ) (by_key : ReplyKey → ℕ) (by_number : ℕ → ℕ) (keys slots links links' : List (List ℕ)) (ring : Ring) → Untouched 0 links links' → Untouched 2 links links'
    → key_ring.Sound N by_key by_number (table_of keys slots links ring) → key_ring.Sound N by_key by_number (table_of keys slots links' ring)
still_sound N by_key by_number keys slots links links' ring a b s = record {
  ring_fits = s.ring_fits;
  keys_fit = s.keys_fit;
  slots_fit = s.slots_fit;
  links_fit = still_rows 0 N 8 links links' a s.links_fit;
  by_key = still-whole 0 N _ ring.head ring.len links links' a s.by_key;
  by_number = still-whole 2 N _ ring.head ring.len links links' b s.by_number;
}

-- ---- fresh

module _ (N copies : ℕ) where
  pub follows_fresh : (wanted : ℕ) (secret : List ℕ) (r : Rooms) → FollowsFollow N copies [] (fresh_stand wanted secret r)
  unfolding rows_of contents first_of slot_of events slot_at count measured delays estimates
  follows_fresh wanted secret r = record {
    figures = record { counts = refl; delay = fresh-delays; quality = fresh-quality };
    slots = record { slots = λ n. refl; fit = λ n. tt; counted = empty-counted; unobserved = λ e. absurd (true_not_false e refl) };
  }

  -- the same slots over other links
  links_free : (h : List Call) (keys slots links links' : List (List ℕ)) (ring : Ring) (awaits : Bool) → SlotsFollow N copies h (table_of keys slots links ring) awaits
      → SlotsFollow N copies h (table_of keys slots links' ring) awaits
  unfolding rows_of
  links_free h keys slots links links' ring awaits f = record { slots = f.slots; fit = f.fit; counted = f.counted; unobserved = f.unobserved }

  -- ---- sent, and the monitor's own calls

  module _ (by_key : ReplyKey → ℕ) (by_number : ℕ → ℕ) (h : List Call) (s : LedgerStand) (f : FollowsFollow N copies h s) where
    pub follows_sent : (p : SentProbe) → FollowsFollow N copies (Sent p ∷ h) (with_sent s (sent_of N by_key by_number s p))
    unfolding sent_in count events slot_at measured
    follows_sent p =
        let g = links_free h s.rooms.keys s.rooms.slots s.rooms.links (sent_of N by_key by_number s p).links s.ledger.tables.keys s.ledger.tables.awaits f.slots in
        record {
          figures = record { counts = f.figures.counts; delay = f.figures.delay; quality = f.figures.quality };
          slots = record { slots = g.slots; fit = g.fit; counted = g.counted; unobserved = g.unobserved };
        }

    pub follows_advanced : (t : ℕ) → FollowsFollow N copies (Advance t ∷ h) s
    unfolding count events
    follows_advanced t = record {
      figures = record { counts = f.figures.counts; delay = f.figures.delay; quality = f.figures.quality };
      slots = record { slots = f.slots.slots; fit = f.slots.fit; counted = f.slots.counted; unobserved = f.slots.unobserved };
    }

    pub follows_idle : FollowsFollow N copies (Idle ∷ h) s
    unfolding count events
    follows_idle = record {
      figures = record { counts = f.figures.counts; delay = f.figures.delay; quality = f.figures.quality };
      slots = record { slots = f.slots.slots; fit = f.slots.fit; counted = f.slots.counted; unobserved = f.slots.unobserved };
    }

  -- ---- accept

  ready-measured : (es : List Event) (k : ReplyKey) (p : Option PendingPacket) → measured N copies (ready N es k p) ≡ measured N copies es
  unfolding ready measured
  ready-measured es k p = go (has (held N es) k.sender)
    where
      go : (b : Bool) → measured N copies (cond b es (remembered k.sender None 0 (or_else p no_packet) ∷ es)) ≡ measured N copies es
      go true = refl
      go false = refl

  reply-measured : (x : Class) (es : List Event) (k : ReplyKey) (p : Option PendingPacket) → measured N copies (after_reply N x es k p) ≡ measured N copies es
  unfolding after_reply measured
  reply-measured duplicate es k p = refl
  reply-measured unknown es k p = refl
  reply-measured unique es k p = ready-measured es k p

  module _ (some-room : 0 < N) (by_key : ReplyKey → ℕ) (by_number : ℕ → ℕ) (key_below : (k : ReplyKey) → by_key k < N) (number-below : (r : ℕ) → by_number r < N)
      (h : List Call) (s : LedgerStand) (a : Reply) (fits : KeyFits a.key) (r : RepliesFollow N by_key by_number copies h s) (f : FollowsFollow N copies h s) where
    abbrev es : List Event
    es = events N h

    abbrev pending : Option PendingPacket
    pending = packet_of a.pending

    -- no reply changes a figure
    figures_accepted : FiguresFollow N copies (Accept a ∷ h) s.ledger.counts.follow
    unfolding count events
    figures_accepted =
        let e = reply-measured (reply_class N es a.key pending) es a.key pending in
        record {
          counts = f.figures.counts;
          delay = f.figures.delay ∙ ap (λ (ms : List Measured). delays_from (figures_of (delays ms))) (sym e);
          quality = f.figures.quality ∙ ap (λ (ms : List Measured). quality_of (estimates ms)) (sym e);
        }

    abbrev outcome : Class → LedgerStand
    outcome x = with_accept s (by N some-room by_key by_number copies h s a fits r x)

    -- the events by the class
    events_are : (x : Class) → reply_class N es a.key pending ≡ x → events N (Accept a ∷ h) ≡ after_reply N x es a.key pending
    unfolding events
    events_are x e = rw e

    -- the key goes into the links that its probe left
    abbrev probe_links : List (List ℕ)
    probe_links =
        (readied N by_key by_number (probe_rooms s) (probe_ring.slot_of N by_number (probe_rooms s) a.key.sender) a.key a.pending).links

    abbrev t : Table
    t = table_of s.rooms.keys s.rooms.slots probe_links s.ledger.tables.keys

    sound : key_ring.Sound N by_key by_number t
    sound =
        still_sound N by_key by_number s.rooms.keys s.rooms.slots s.rooms.links probe_links s.ledger.tables.keys
        (readied_elsewhere 0 (λ e. omega (arith, e)) (λ e. omega (arith, e)) (λ e. omega (arith, e)) N by_number by_key (probe_rooms s) (probe_ring.slot_of N by_number (probe_rooms s) a.key.sender) a.key a.pending)
        (readied_elsewhere 2 (λ e. omega (arith, e)) (λ e. omega (arith, e)) (λ e. omega (arith, e)) N by_number by_key (probe_rooms s) (probe_ring.slot_of N by_number (probe_rooms s) a.key.sender) a.key a.pending)
        r.keys_sound

    keys_are : key_ring.keys_of N t ≡ last_accepted N es
    unfolding key_ring.keys_of
    keys_are = r.keys_are

    free : SlotsFollow N copies h t s.ledger.tables.awaits
    free = links_free h s.rooms.keys s.rooms.slots s.rooms.links probe_links s.ledger.tables.keys s.ledger.tables.awaits f.slots

    by_class : (x : Class) → reply_class N es a.key pending ≡ x → FollowsFollow N copies (Accept a ∷ h) (outcome x)
    unfolding after_reply unique_in
    by_class duplicate e = record {
      figures = record { counts = figures_accepted.counts; delay = figures_accepted.delay; quality = figures_accepted.quality };
      slots = record {
        slots = λ n. f.slots.slots n ∙ ap (λ (x : List Event). slot_at N copies x n) (sym (events_are duplicate e));
        fit = f.slots.fit;
        counted = f.slots.counted;
        unobserved = f.slots.unobserved;
      };
    }
    by_class unknown e = record {
      figures = record { counts = figures_accepted.counts; delay = figures_accepted.delay; quality = figures_accepted.quality };
      slots = record {
        slots = λ n. f.slots.slots n ∙ ap (λ (x : List Event). slot_at N copies x n) (sym (events_are unknown e));
        fit = f.slots.fit;
        counted = f.slots.counted;
        unobserved = f.slots.unobserved;
      };
    }
    by_class unique e = record {
      figures = record { counts = figures_accepted.counts; delay = figures_accepted.delay; quality = figures_accepted.quality };
      slots = record {
        slots = λ n.
            slots_accepted N copies by_key by_number key_below number-below es t sound keys_are free.slots free.fit free.counted a.key pending fits.reflector_in n
            ∙ ap (λ (x : List Event). slot_at N copies x n) (sym (events_are unique e));
        fit = fit_accepted N copies by_key by_number key_below number-below es t sound keys_are free.slots free.fit free.counted a.key pending fits.reflector_in;
        counted = counted-accepted N copies by_key by_number key_below number-below es t sound keys_are free.slots free.fit free.counted a.key pending fits.reflector_in;
        unobserved = λ x. unobserved-accepted N copies by_key by_number key_below number-below es t sound keys_are free.slots free.fit free.counted a.key pending fits.reflector_in;
      };
    }

    pub follows_accepted : FollowsFollow N copies (Accept a ∷ h) (with_accept s (accept_of N by_key by_number s a))
    follows_accepted = rw (accept_by_class N some-room by_key by_number copies h s a fits r) (by_class (reply_class N es a.key pending) refl)
