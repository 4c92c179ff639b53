-- A served `observe`, and the calls of the monitor alone, keep what the ledger shows of replies.
-- Assumes nothing.
use mathlib.Core.Path.{◌≡◌, refl, ◌∙◌}
use mathlib.Core.List.{List, ◌∷◌, map}
use Prim.Native.Nat.{ℕ, ◌<◌}
use native.Mathlib.Omega.{arith}
use Rattle.call_types.specs.declared.ReplyKey.{ReplyKey}
use Rattle.call_types.specs.declared.ReplyObservation.{ReplyObservation}
use Rattle.call_types.specs.declared.Call.{Call}
use Rattle.call_types.specs.declared.Call.TheVariants.{Observe, Advance, Idle}
use Rattle.key_ring.specs.Table.{table_of, Sound}
use Rattle.history.specs.Ledger.{accepted, last_accepted, rememberings, held, replies, packet, awaiting, events}
use Rattle.history.specs.Ledger as history
use Rattle.ledger_steps.specs.Rooms.{LedgerStand}
use Rattle.ledger_steps.specs.Observe.{direct_in, follow_in, observe_in}
use Rattle.reply_history.specs.Stands.{with_observe, observe_of}
use Rattle.reply_history.specs.Follows.{probe_in, RepliesFollow}
use Rattle.reply_history.proofs.Lanes.{keys_stay, keys_alike, probes_stay, probes_alike, OffsetLane, direct-lane}
use Rattle.reply_history.proofs.Slots.{follow_sound, own_sound}
use Rattle.reply_history.proofs.Counts.{counts-observe, counts-advance, counts-idle}

module _ (N : ℕ) (by_key : ReplyKey → ℕ) (by_number : ℕ → ℕ) (number-below : (r : ℕ) → by_number r < N) (copies : ℕ) (h : List Call) (s : LedgerStand)
    (f : RepliesFollow N by_key by_number copies h s) where
  module _ (o : ReplyObservation) where
    -- the links that the counters leave, and the words that the follow-up leaves
    abbrev links : List (List ℕ)
    links = (direct_in N by_number s.ledger.counts.direct s.rooms.offsets s.rooms.links o).links

    abbrev slots : List (List ℕ)
    slots = (follow_in N by_key by_number s.ledger.counts.follow s.ledger.tables.keys s.rooms.keys s.rooms.slots links o).slots

    lane : OffsetLane N s.rooms.links links
    lane = direct-lane N by_number number-below s.ledger.counts.direct s.rooms.offsets s.rooms.links o f.keys_sound.links_fit

    counted_sound : Sound N by_key by_number (table_of s.rooms.keys s.rooms.slots links s.ledger.tables.keys)
    counted_sound =
        keys_stay N by_key by_number s.rooms.keys s.rooms.slots s.rooms.links links s.ledger.tables.keys lane.links_fit
        (λ i j l. lane.elsewhere i j (omega arith)) f.keys_sound

    followed_sound : Sound N by_key by_number (table_of s.rooms.keys slots links s.ledger.tables.keys)
    followed_sound = follow_sound N by_key by_number s.rooms.keys s.rooms.slots links s.ledger.tables.keys counted_sound s.ledger.counts.follow o

    keys_same : last_accepted N (events N h) ≡ last_accepted N (events N (Observe o ∷ h))
    unfolding events last_accepted accepted
    keys_same = refl

    probes-same : map (probe_in (events N h)) (held N (events N h)) ≡ map (probe_in (events N (Observe o ∷ h))) (held N (events N (Observe o ∷ h)))
    unfolding events held rememberings replies history.ordinal history.train packet
    probes-same = refl

    pub observe_keeps : RepliesFollow N by_key by_number copies (Observe o ∷ h) (with_observe s (observe_of N by_key by_number s o))
    unfolding observe_in events awaiting
    observe_keeps = record {
      keys_sound = own_sound N by_key by_number s.rooms.keys slots links s.ledger.tables.keys followed_sound s.ledger.copies o;
      keys_are = keys_alike N s.rooms.keys s.rooms.slots _ s.rooms.links links s.ledger.tables.keys ∙ f.keys_are ∙ keys_same;
      probes_sound =
          probes_stay N by_number s.rooms.probes s.rooms.links links s.ledger.tables.probes lane.links_fit
          (λ i. lane.elsewhere i 4 (omega arith)) (λ i. lane.elsewhere i 5 (omega arith)) f.probes_sound;
      probes_are = probes_alike N s.rooms.probes s.rooms.links links s.ledger.tables.probes ∙ f.probes_are ∙ probes-same;
      awaits_is = refl;
      copies_are = f.copies_are;
      replies_are = f.replies_are ∙ counts-observe N copies h o;
    }

  -- the ledger has no part in these
  pub advance_keeps : (t : ℕ) → RepliesFollow N by_key by_number copies (Advance t ∷ h) s
  unfolding events
  advance_keeps t = record {
    keys_sound = f.keys_sound;
    keys_are = f.keys_are;
    probes_sound = f.probes_sound;
    probes_are = f.probes_are;
    awaits_is = f.awaits_is;
    copies_are = f.copies_are;
    replies_are = f.replies_are ∙ counts-advance N copies h t;
  }

  pub idle_keeps : RepliesFollow N by_key by_number copies (Idle ∷ h) s
  unfolding events
  idle_keeps = record {
    keys_sound = f.keys_sound;
    keys_are = f.keys_are;
    probes_sound = f.probes_sound;
    probes_are = f.probes_are;
    awaits_is = f.awaits_is;
    copies_are = f.copies_are;
    replies_are = f.replies_are ∙ counts-idle N copies h;
  }
