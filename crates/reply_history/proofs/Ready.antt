-- Before a unique reply counts, its probe is held: as it was, or remembered without ordinal. What the rooms then hold, and where its row stands.
-- Assumes nothing.
use Rattle.std.specs.Prelude.{Option, None}
use Rattle.call_types.specs.declared.PendingPacket.{PendingPacket}
use mathlib.Core.Path.{◌≡◌, refl, ap, ◌∙◌}
use mathlib.Core.Bool.{Bool, true, false, not, ◌&&◌}
use mathlib.Core.Logic.{◌≢◌}
use mathlib.Core.List.{List, map}
use Prim.Native.Nat.{ℕ, ◌<◌}
use native.Mathlib.Omega.{arith}
use borrow.Author.Tests.{ltb-true}
use lib.Dec.{eqb, ltb}
use lib.ListN.{length}
use Rattle.chains.specs.Links.{word_of}
use Rattle.call_types.specs.declared.ReplyKey.{ReplyKey}
use Rattle.probe_ring.specs.declared.HeldProbe.{HeldProbe}
use Rattle.probe_ring.specs.Row.{unanswered, packet_after, ProbeFits}
use Rattle.probe_ring.specs.Held as list
use Rattle.probe_ring.specs.Held.{remembering, evicts, loses}
use Rattle.probe_ring.specs.Rooms as probe_ring
use Rattle.probe_ring.specs.Rooms.{Rooms, Outcome, rooms_after, slot_of, pushed}
use Rattle.probe_ring.proofs.Laws.{Sound, find_first, find_is}
use Rattle.probe_ring.proofs.Remembering.{Remembers, remembers-new}
use Rattle.replies.specs.Served as served
use Rattle.history.specs.Counting.{has, or_else}
use Rattle.history.specs.Given.{packet_of}
use Rattle.history.specs.Ledger.{Event, remembered, no_packet, oldest, held, replies, ready, probes_evicted, evicted_unanswered}
use Rattle.ledger_steps.specs.Accept.{readied, probe_at}
use Rattle.reply_history.specs.Fits.{KeyFits}
use Rattle.reply_history.specs.Follows.{probe_in}
use Rattle.reply_history.proofs.Probes.{rows_has, rows_first, rows_remember, packet-after, held_new, evicts_is, loses_is}
use Rattle.reply_history.proofs.Counts.{tally-same}

module _ (N : ℕ) (some-room : 0 < N) (by_key : ReplyKey → ℕ) (by_number : ℕ → ℕ) (es : List Event) (r : Rooms) (sound : Sound N by_number r)
    (are : probe_ring.held N r ≡ map (probe_in es) (held N es)) (k : ReplyKey) (fits : KeyFits k) (p : Option PendingPacket) where
  -- the events once the probe is held
  abbrev es' : List Event
  es' = ready N es k (packet_of p)

  pub record Readied (o : Outcome) : Type 0 where
    pub after_sound : Sound N by_number (rooms_after o)
    pub after_are : probe_ring.held N (rooms_after o) ≡ map (probe_in es') (held N es')
    pub after-has : has (held N es') k.sender ≡ true
    pub after-found : slot_of N by_number (rooms_after o) k.sender ≡ o.answer.slot
    pub after-evicted : served.tally o.answer.evicted (probes_evicted N es) ≡ probes_evicted N es'
    pub after-lost : served.tally o.answer.lost (evicted_unanswered N es) ≡ evicted_unanswered N es'
    pub after_elsewhere : (i j : ℕ) → j ≢ 4 → j ≢ 5 → word_of o.links i j ≡ word_of r.links i j

  -- A sequence is found exactly if the history holds it.
  pub found_is : (s : ℕ) → ltb (slot_of N by_number r s) N ≡ has (held N es) s
  found_is s = find_is N by_number r sound s ∙ ap (λ (ps : List HeldProbe). list.holds ps s) are ∙ rows_has es (held N es) s

  -- the probe as it is remembered where it is not held
  abbrev new : HeldProbe
  new = unanswered k.sender (packet_after p no_packet) None 0

  new-fits : ProbeFits new
  new-fits = record { sequence_in = fits.sender_in; replies_in = omega arith; ordinal_in = tt; train_in = omega arith }

  is_held : has (held N es) k.sender ≡ true → Readied (readied N by_key by_number r (slot_of N by_number r k.sender) k p)
  unfolding readied ready
  is_held e = rw (found_is k.sender, e) (record {
    after_sound = sound;
    after_are = rw e are;
    after-has = rw e e;
    after-found = refl;
    after-evicted = rw e;
    after-lost = rw e;
    after_elsewhere = λ i j a b. refl;
  })

  is_new : has (held N es) k.sender ≡ false → Readied (readied N by_key by_number r (slot_of N by_number r k.sender) k p)
  unfolding readied ready probes_evicted evicted_unanswered
  is_new e =
      let absent : list.holds (probe_ring.held N r) k.sender ≡ false = ap (λ (ps : List HeldProbe). list.holds ps k.sender) are ∙ rows_has es (held N es) k.sender ∙ e in
      let rem : Remembers N by_number r sound new (pushed N by_number r new) = remembers-new N by_number r sound new new-fits absent in
      let told : (pushed N by_number r new).answer.evicted ≡ (eqb (length (held N es)) N && not (has (held N es) k.sender)) =
      rem.after-evicted ∙ ap (evicts N new) are ∙ evicts_is N es new in
      let loss : (pushed N by_number r new).answer.lost ≡ (eqb (length (held N es)) N && not (has (held N es) k.sender) && eqb (replies (oldest k.sender (held N es)) es) 0) =
      rem.after-lost ∙ ap (loses N new) are ∙ loses_is N some-room es new in
      rw (found_is k.sender, e) (record {
        after_sound = rem.after_sound;
        after_are = rw e (rem.after-held ∙ ap (remembering N new) are ∙ rw (packet-after es p no_packet) (rows_remember es N k.sender None 0 (or_else (packet_of p) no_packet)));
        after-has = rw e (held_new es N k.sender None 0 (or_else (packet_of p) no_packet) some-room);
        after-found = rem.after-found;
        after-evicted = rw (e, told) (tally-same (eqb (length (held N es)) N && not (has (held N es) k.sender)) (probes_evicted N es));
        after-lost = rw (e, loss) (tally-same (eqb (length (held N es)) N && not (has (held N es) k.sender) && eqb (replies (oldest k.sender (held N es)) es) 0) (evicted_unanswered N es));
        after_elsewhere = rem.after_elsewhere;
      })

  pub readied_is : Readied (readied N by_key by_number r (slot_of N by_number r k.sender) k p)
  readied_is = go (has (held N es) k.sender) refl
    where
      go : (b : Bool) → has (held N es) k.sender ≡ b → Readied (readied N by_key by_number r (slot_of N by_number r k.sender) k p)
      go true e = is_held e
      go false e = is_new e

  -- ---- where its row stands, and what it is

  module _ (o : Outcome) (ok : Readied o) where
    slot_true : ltb o.answer.slot N ≡ true
    slot_true =
        rw (← ok.after-found)
        (find_is N by_number (rooms_after o) ok.after_sound k.sender ∙ ap (λ (ps : List HeldProbe). list.holds ps k.sender) ok.after_are ∙ rows_has es' (held N es') k.sender ∙ ok.after-has)

    pub slot_in_lem : o.answer.slot < N
    slot_in_lem = ltb-true o.answer.slot N slot_true

    pub probe_is : probe_at o.rows o.answer.slot ≡ probe_in es' k.sender
    probe_is =
        let found = find_first N by_number (rooms_after o) ok.after_sound {B = HeldProbe} (λ q. q) (probe_in es' k.sender) k.sender in
        (rw (ok.after-found, slot_true) at found) ∙ rw ok.after_are (rows_first es' {B = HeldProbe} (λ q. q) (probe_in es' k.sender) k.sender (held N es') ok.after-has)
