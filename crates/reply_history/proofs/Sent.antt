-- A served `sent` keeps what the ledger shows of replies.
-- Assumes nothing.
use Rattle.std.specs.Prelude.{Some}
use mathlib.Core.Path.{◌≡◌, refl, ap, ◌∙◌}
use mathlib.Core.List.{List, ◌∷◌}
use Prim.Native.Nat.{ℕ, ◌<◌}
use native.Mathlib.Omega.{arith}
use Rattle.call_types.specs.declared.ReplyKey.{ReplyKey}
use Rattle.call_types.specs.declared.SentProbe.{SentProbe}
use Rattle.call_types.specs.declared.Call.{Call}
use Rattle.call_types.specs.declared.Call.TheVariants.{Sent}
use Rattle.probe_ring.specs.declared.HeldProbe.{HeldProbe}
use Rattle.probe_ring.specs.Row.{unanswered, ProbeFits}
use Rattle.probe_ring.specs.Held.{remembering, evicts, loses}
use Rattle.probe_ring.specs.Rooms.{remembered}
use Rattle.probe_ring.proofs.Remembering.{Remembers, remembers}
use Rattle.history.specs.Ledger.{accepted, last_accepted, awaiting, events}
use Rattle.ledger_steps.specs.Rooms.{LedgerStand}
use Rattle.ledger_steps.specs.Sent.{sent_in}
use Rattle.reply_history.specs.Fits.{SentFits}
use Rattle.reply_history.specs.Stands.{with_sent, sent_of}
use Rattle.reply_history.specs.Follows.{probe_rooms, RepliesFollow}
use Rattle.reply_history.proofs.Probes.{rows_remember, evicts_is, loses_is}
use Rattle.reply_history.proofs.Lanes.{keys_stay, keys_alike}
use Rattle.reply_history.proofs.Counts.{counts-sent}

module _ (N : ℕ) (some-room : 0 < N) (by_key : ReplyKey → ℕ) (by_number : ℕ → ℕ) (copies : ℕ) (h : List Call) (s : LedgerStand) (p : SentProbe) (fits : SentFits p)
    (f : RepliesFollow N by_key by_number copies h s) where
  -- the probe as it is remembered
  abbrev new : HeldProbe
  new = unanswered p.sequence p.packet (Some p.ordinal) p.train

  new-fits : ProbeFits new
  new-fits = record { sequence_in = fits.sequence_in; replies_in = omega arith; ordinal_in = fits.ordinal_in; train_in = fits.train_in }

  rem : Remembers N by_number (probe_rooms s) f.probes_sound new (remembered N by_number (probe_rooms s) new)
  rem = remembers N by_number (probe_rooms s) f.probes_sound new new-fits

  keys_same : last_accepted N (events N h) ≡ last_accepted N (events N (Sent p ∷ h))
  unfolding events last_accepted accepted
  keys_same = refl

  pub sent_follows : RepliesFollow N by_key by_number copies (Sent p ∷ h) (with_sent s (sent_of N by_key by_number s p))
  unfolding sent_in events awaiting
  sent_follows = record {
    keys_sound =
        keys_stay N by_key by_number s.rooms.keys s.rooms.slots s.rooms.links _ s.ledger.tables.keys rem.after_sound.links_fit
        (λ i j l. rem.after_elsewhere i j (λ e. omega (arith, e)) (λ e. omega (arith, e))) f.keys_sound;
    keys_are = keys_alike N s.rooms.keys s.rooms.slots s.rooms.slots s.rooms.links _ s.ledger.tables.keys ∙ f.keys_are ∙ keys_same;
    probes_sound = rem.after_sound;
    probes_are = rem.after-held ∙ ap (remembering N new) f.probes_are ∙ rows_remember (events N h) N p.sequence (Some p.ordinal) p.train p.packet;
    awaits_is = f.awaits_is;
    copies_are = f.copies_are;
    replies_are =
        rw (f.copies_are, f.replies_are)
        (counts-sent N copies h p (remembered N by_number (probe_rooms s) new).answer.evicted (remembered N by_number (probe_rooms s) new).answer.lost
        (rem.after-evicted ∙ ap (evicts N new) f.probes_are ∙ evicts_is N (events N h) new)
        (rem.after-lost ∙ ap (loses N new) f.probes_are ∙ loses_is N some-room (events N h) new));
  }
