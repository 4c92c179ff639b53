-- A unique reply: its key is the newest of the accepted ones, its probe has one reply more, and every count is the history's.
-- Assumes nothing.
use Rattle.std.specs.Prelude.{Some, None}
use mathlib.Core.Path.{◌≡◌, refl, sym, ap, ◌∙◌, subst}
use mathlib.Core.Bool.{Bool, true, false, cond}
use mathlib.Core.List.{List, [], ◌∷◌, map}
use Prim.Native.Nat.{ℕ, ◌/◌, ◌%◌, ◌^◌, ◌<◌, suc}
use native.Mathlib.Omega.{arith}
use lib.Dec.{leb, eqb}
use lib.ListN.{take, get_or, set}
use Rattle.call_types.specs.declared.ReplyKey.{ReplyKey}
use Rattle.call_types.specs.declared.Reply.{Reply}
use Rattle.call_types.specs.declared.Call.{Call}
use Rattle.call_types.specs.declared.Call.TheVariants.{Accept}
use Rattle.key_ring.specs.Table as key_ring
use Rattle.key_ring.specs.Table.{Table, table_of, keys_of, accepted_key}
use Rattle.key_ring.proofs.Accepts.{accepted_sound, accepted_keys}
use Rattle.probe_ring.specs.declared.HeldProbe.{HeldProbe}
use Rattle.probe_ring.specs.Row.{words_of, OrdinalFits, ProbeFits}
use Rattle.probe_ring.specs.Row as row
use Rattle.probe_ring.specs.Held.{replacing}
use Rattle.probe_ring.specs.Rooms as probe_ring
use Rattle.probe_ring.specs.Rooms.{Outcome, rooms, rooms_after, slot_of}
use Rattle.probe_ring.proofs.Laws as probe_laws
use Rattle.probe_ring.proofs.Replies.{put-held, put_sound}
use Rattle.replies.specs.Served.{after_unique}
use Rattle.history.specs.Counting.{present}
use Rattle.history.specs.Given.{packet_of}
use Rattle.history.specs.Ledger.{Event, replied, unique, accepted, last_accepted, rememberings, held, replies, awaiting, reply_class, ready, before, after_reply, events, answer}
use Rattle.ledger_steps.specs.Rooms.{LedgerStand}
use Rattle.ledger_steps.specs.Accept.{is_pending, probe_at, context_of, readied, replied_rows, unique_in}
use Rattle.reply_history.specs.Fits.{KeyFits, AllFit}
use Rattle.reply_history.specs.Follows.{as_accepted, probe_rooms, probe_in, replies_in, RepliesFollow}
use Rattle.reply_history.proofs.Lists.{take_cons_take}
use Rattle.reply_history.proofs.Saturation.{one_more_lem, kept_in}
use Rattle.reply_history.proofs.Probes.{replied_row, rows_replied}
use Rattle.reply_history.proofs.Numbers.{ready-accepted, accepted_fit}
use Rattle.reply_history.proofs.Keys.{key-evicted}
use Rattle.reply_history.proofs.Lanes.{keys_stay, keys_alike, probes_stay, probes_alike, accepted_elsewhere}
use Rattle.reply_history.proofs.Counts.{counts-unique}
use Rattle.reply_history.proofs.Ready.{Readied, readied_is, slot_in_lem, probe_is}
use Rattle.reply_history.proofs.Classes.{AcceptFollows, by}

-- the ordinal and the train of any row fit
low_in : (n : ℕ) → n % 4294967296 < 4294967296
low_in n = omega arith

word-ordinal : (known number : ℕ) → number < 2 ^ 32 → OrdinalFits (row.ordinal_of known number)
unfolding row.ordinal_of
word-ordinal known number l = go (eqb known 0)
  where
    go : (b : Bool) → OrdinalFits (cond b None (Some number))
    go true = tt
    go false = l

row_ordinal : (words : List ℕ) → OrdinalFits (row.held_probe_of words).ordinal
unfolding row.held_probe_of
row_ordinal words = word-ordinal (get_or words 0 0 / 2 ^ 32 / 2 ^ 16) (get_or words 1 0 % 2 ^ 32) (low_in (get_or words 1 0))

row_train : (words : List ℕ) → (row.held_probe_of words).train < 2 ^ 32
unfolding row.held_probe_of
row_train words = low_in (get_or words 1 0 / 2 ^ 32)

module _ (N : ℕ) (some-room : 0 < N) (by_key : ReplyKey → ℕ) (by_number : ℕ → ℕ) (key_below : (k : ReplyKey) → by_key k < N) (number-below : (r : ℕ) → by_number r < N)
    (copies : ℕ) (copies_in : copies < 2 ^ 16) (h : List Call) (all_fit : AllFit h) (s : LedgerStand) (a : Reply) (fits : KeyFits a.key)
    (f : RepliesFollow N by_key by_number copies h s) (e : reply_class N (events N h) a.key (packet_of a.pending) ≡ unique) where
  -- the events once the probe is held, and with the reply
  abbrev es' : List Event
  es' = ready N (events N h) a.key (packet_of a.pending)

  events_are : events N (Accept a ∷ h) ≡ replied a.key (packet_of a.pending) ∷ es'
  unfolding events after_reply
  events_are = rw e

  -- the rooms once the probe is held
  abbrev o : Outcome
  o = readied N by_key by_number (probe_rooms s) (slot_of N by_number (probe_rooms s) a.key.sender) a.key a.pending

  ok : Readied N some-room by_key by_number (events N h) (probe_rooms s) f.probes_sound f.probes_are a.key fits a.pending o
  ok = readied_is N some-room by_key by_number (events N h) (probe_rooms s) f.probes_sound f.probes_are a.key fits a.pending

  here_in : o.answer.slot < N
  here_in = slot_in_lem N some-room by_key by_number (events N h) (probe_rooms s) f.probes_sound f.probes_are a.key fits a.pending o ok

  here_is : probe_at o.rows o.answer.slot ≡ probe_in es' a.key.sender
  here_is = probe_is N some-room by_key by_number (events N h) (probe_rooms s) f.probes_sound f.probes_are a.key fits a.pending o ok

  -- ---- the keys

  abbrev t : Table
  t = table_of s.rooms.keys s.rooms.slots o.links s.ledger.tables.keys

  t_sound : key_ring.Sound N by_key by_number t
  t_sound =
      keys_stay N by_key by_number s.rooms.keys s.rooms.slots s.rooms.links o.links s.ledger.tables.keys ok.after_sound.links_fit
      (λ i j l. ok.after_elsewhere i j (λ q. omega (arith, q)) (λ q. omega (arith, q))) f.keys_sound

  t_keys : keys_of N t ≡ last_accepted N (events N h)
  t_keys = keys_alike N s.rooms.keys s.rooms.slots s.rooms.slots s.rooms.links o.links s.ledger.tables.keys ∙ f.keys_are

  abbrev t' : Table
  t' = accepted_key N by_key by_number t a.key

  t'_sound : key_ring.Sound N by_key by_number t'
  t'_sound = accepted_sound N by_key by_number key_below number-below t t_sound a.key fits.reflector_in

  t'_keys : keys_of N t' ≡ last_accepted N (events N (Accept a ∷ h))
  unfolding last_accepted accepted
  t'_keys =
      accepted_keys N by_key by_number key_below number-below t t_sound a.key fits.reflector_in
      ∙ ap (λ (ks : List ReplyKey). take N (a.key ∷ ks)) t_keys
      ∙ take_cons_take N a.key (accepted (events N h))
      ∙ rw (events_are, ready-accepted N (events N h) a.key (packet_of a.pending))

  -- ---- the probes

  -- its probe after the reply
  abbrev after : HeldProbe
  after = row.after_reply a.pending (probe_in es' a.key.sender)

  rows_are : replied_rows o.rows o.answer.slot a.pending ≡ set o.rows o.answer.slot (words_of after)
  rows_are = ap (λ (q : HeldProbe). set o.rows o.answer.slot (words_of (row.after_reply a.pending q))) here_is

  after-fits : ProbeFits after
  unfolding row.after_reply
  after-fits = record {
    sequence_in = fits.sender_in;
    replies_in = rw (one_more_lem (replies a.key.sender es')) (kept_in (suc (replies a.key.sender es')));
    ordinal_in = subst (λ (q : HeldProbe). OrdinalFits q.ordinal) here_is (row_ordinal (get_or o.rows o.answer.slot []));
    train_in = subst (λ (q : HeldProbe). q.train < 2 ^ 32) here_is (row_train (get_or o.rows o.answer.slot []));
  }

  its : after.sequence ≡ a.key.sender
  unfolding row.after_reply
  its = refl

  at_its : o.answer.slot ≡ slot_of N by_number (rooms_after o) after.sequence
  at_its = rw its (sym ok.after-found)

  -- the probes' rooms before the keys' lanes change
  put_is : probe_ring.held N (rooms (set o.rows o.answer.slot (words_of after)) o.links o.answer.ring) ≡ map (probe_in (events N (Accept a ∷ h))) (held N (events N (Accept a ∷ h)))
  unfolding held rememberings
  put_is =
      put-held N by_number (rooms_after o) ok.after_sound after after-fits o.answer.slot at_its here_in
      ∙ ap (replacing after) ok.after_are
      ∙ rows_replied es' a.key a.pending (held N es')
      ∙ rw events_are

  probes_sound' : probe_laws.Sound N by_number (rooms (replied_rows o.rows o.answer.slot a.pending) t'.links o.answer.ring)
  probes_sound' =
      rw rows_are
      (probes_stay N by_number (set o.rows o.answer.slot (words_of after)) o.links t'.links o.answer.ring t'_sound.links_fit
      (λ i. accepted_elsewhere N by_key by_number key_below number-below t t_sound a.key i 4 (omega arith))
      (λ i. accepted_elsewhere N by_key by_number key_below number-below t t_sound a.key i 5 (omega arith))
      (put_sound N by_number (rooms_after o) ok.after_sound after after-fits o.answer.slot at_its here_in))

  probes_are' : probe_ring.held N (rooms (replied_rows o.rows o.answer.slot a.pending) t'.links o.answer.ring) ≡ map (probe_in (events N (Accept a ∷ h))) (held N (events N (Accept a ∷ h)))
  probes_are' =
      rw rows_are
      (probes_alike N (set o.rows o.answer.slot (words_of after)) o.links t'.links o.answer.ring ∙ put_is)

  -- ---- the counts and the answer

  counts_are :
      after_unique (probe_at o.rows o.answer.slot).replies s.ledger.copies (is_pending a.pending) a.key.sender a.key.reflector
      o.answer.evicted o.answer.lost (leb N s.ledger.tables.keys.len) s.ledger.counts.replies
      ≡ replies_in N copies (Accept a ∷ h)
  counts_are =
      rw (here_is, f.copies_are, f.replies_are)
      (counts-unique N copies h a e o.answer.evicted o.answer.lost (leb N s.ledger.tables.keys.len) copies_in fits (accepted_fit N h all_fit) ok.after-evicted ok.after-lost
      (key-evicted N t (events N h) t_keys))

  awaits_are : true ≡ present (awaiting (events N (Accept a ∷ h)))
  unfolding awaiting
  awaits_are = rw events_are

  answer_is : context_of (row.after_reply a.pending (probe_at o.rows o.answer.slot)) ≡ as_accepted (answer N (events N h) a.key (packet_of a.pending))
  unfolding answer after_reply
  answer_is = rw (here_is, e) (ap context_of (replied_row es' a.key a.pending))

  pub unique_follows : AcceptFollows N some-room by_key by_number copies h s a fits f (by N some-room by_key by_number copies h s a fits f unique)
  unfolding unique_in
  unique_follows = record {
    follows = record {
      keys_sound = t'_sound;
      keys_are = t'_keys;
      probes_sound = probes_sound';
      probes_are = probes_are';
      awaits_is = awaits_are;
      copies_are = f.copies_are;
      replies_are = counts_are;
    };
    answers = answer_is;
  }
