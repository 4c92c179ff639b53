-- The steps of `accept`, from what its callees do; the probe and a unique reply over any N and any words of the hash.
-- Assumes nothing.
use Rattle.std.specs.Prelude.{Option, None, Ok, Err}
use mathlib.Core.Path.{◌≡◌, refl, sym, ap, ◌∙◌}
use mathlib.Core.Bool.{false}
use mathlib.Core.List.{List, []}
use Prim.Native.Nat.{ℕ, zero, suc, ◌≤◌, ◌<◌}
use borrow.Author.Tests.{lt-ltb, le-ltb}
use lib.Dec.{leb}
use lib.ListN.{length, get_or, set}
use Rattle.call_types.specs.declared.ReplyKey.{ReplyKey}
use Rattle.call_types.specs.declared.PendingPacket.{PendingPacket}
use Rattle.call_types.specs.declared.Reply.{Reply}
use Rattle.chains.specs.Hash.{number_hash}
use Rattle.key_ring.specs.Table.{Table, table_of, accepted_key, hash_of}
use Rattle.probe_ring.specs.declared.HeldProbe.{HeldProbe}
use Rattle.probe_ring.specs.Row.{unanswered, packet_after, after_reply, words_of, held_probe_of}
use Rattle.probe_ring.specs.Rooms.{Rooms, Outcome, outcome, pushed}
use Rattle.replies.specs.declared.Replies.{Replies}
use Rattle.replies.specs.Served.{after_unique}
use Rattle.ledger_state.specs.declared.Ledger.{Ledger}
use Rattle.ledger_state.specs.State.{hash_words}
use Rattle.ledger_steps.specs.declared.Accepted.{Accepted}
use Rattle.ledger_steps.specs.Accept.{is_pending, no_packet, ledger_unique, probe_at, replied_rows, context_of, readied, unique_in, accept_on}
use Rattle.ledger_steps.specs.Refusals.{refusal_of_accept}
use Rattle.ledger_steps.specs.Calls.{accept_result, accept_by as call_by, accept_to}
use Rattle.ledger_accept.specs.Served.{served_as}

-- ---- the probe

module _ (N : ℕ) (by_key : ReplyKey → ℕ) (by_number : ℕ → ℕ) (r : Rooms) (slot : ℕ) (a : Reply) where
  pub ready_held : slot < N → outcome r.rows r.links (record { ring = r.ring; slot = slot; evicted = false; lost = false }) ≡ readied N by_key by_number r slot a.key a.pending
  unfolding readied
  ready_held h = rw (lt-ltb slot N h)

  new-ready : N ≤ slot → pushed N by_number r (unanswered a.key.sender (packet_after a.pending no_packet) None 0) ≡ readied N by_key by_number r slot a.key a.pending
  unfolding readied
  new-ready h = rw (le-ltb slot N h)

  pub ready-new : (packet : PendingPacket) (probe : HeldProbe) (o : Outcome) → N ≤ slot → packet ≡ packet_after a.pending no_packet
      → probe ≡ unanswered a.key.sender packet None 0 → o ≡ pushed N by_number r probe → o ≡ readied N by_key by_number r slot a.key a.pending
  ready-new packet probe o h e f g =
      g ∙ ap (pushed N by_number r) (f ∙ ap (λ (x : PendingPacket). unanswered a.key.sender x None 0) e) ∙ new-ready h

-- what one reply more leaves, and what it answers
module _ (rows : List (List ℕ)) (slot : ℕ) (p : Option PendingPacket) (probe after : HeldProbe) (e : probe ≡ held_probe_of (get_or rows slot [])) (f : after ≡ after_reply p probe) where
  pub replied-before : probe.replies ≡ (probe_at rows slot).replies
  replied-before = ap (λ (x : HeldProbe). x.replies) e

  pub replied_context : context_of after ≡ context_of (after_reply p (probe_at rows slot))
  replied_context = ap context_of (f ∙ ap (after_reply p) e)

  pub replied_rows_lem : (left : List (List ℕ)) → left ≡ set rows slot (words_of after) → left ≡ replied_rows rows slot p
  replied_rows_lem left g = g ∙ ap (λ (x : HeldProbe). set rows slot (words_of x)) (f ∙ ap (after_reply p) e)

-- ---- a unique reply

module _ (N : ℕ) (l : Ledger) (secret : List ℕ) (same : secret ≡ hash_words l) (keys slots : List (List ℕ)) (a : Reply) where
  abbrev by_key : ReplyKey → ℕ
  by_key = hash_of (hash_words l)

  abbrev by_number : ℕ → ℕ
  by_number = number_hash (hash_words l)

  pub unique_is : (o : Outcome) (before : ℕ) (context : Accepted) (rows : List (List ℕ)) (counts : Replies) (t : Table) (next : Ledger)
      → before ≡ (probe_at o.rows o.answer.slot).replies
      → context ≡ context_of (after_reply a.pending (probe_at o.rows o.answer.slot))
      → rows ≡ replied_rows o.rows o.answer.slot a.pending
      → counts ≡ after_unique before l.copies (is_pending a.pending) a.key.sender a.key.reflector o.answer.evicted o.answer.lost (leb N l.tables.keys.len) l.counts.replies
      → t ≡ accepted_key N (hash_of secret) (number_hash secret) (table_of keys slots o.links l.tables.keys) a.key
      → next ≡ ledger_unique l t.ring o.answer.ring counts
      → accept_result (Ok (next, context)) t.keys t.slots rows t.links ≡ served_as (unique_in N by_key by_number l keys slots o a)
  unfolding unique_in
  unique_is o before context rows counts t next b c d e f g =
      let table = f ∙ ap (λ (s : List ℕ). accepted_key N (hash_of s) (number_hash s) (table_of keys slots o.links l.tables.keys) a.key) same in
      let sums = e ∙ ap (λ (n : ℕ). after_unique n l.copies (is_pending a.pending) a.key.sender a.key.reflector o.answer.evicted o.answer.lost (leb N l.tables.keys.len) l.counts.replies) b in
      let state = g ∙ (λ i. ledger_unique l (table i).ring o.answer.ring (sums i)) in
      λ i. accept_result (Ok (state i, c i)) (table i).keys (table i).slots (d i) (table i).links

-- ---- the call, refused or not

module _ (other : ℕ) (l : Ledger) (keys slots probes links : List (List ℕ)) (a : Reply) (n : ℕ)
    (e : n ≡ refusal_of_accept other l (length keys) (length slots) (length probes) (length links)) where
  pub call_served : n ≡ 0 → served_as (accept_on l keys slots probes links a) ≡ accept_to other l keys slots probes links a
  unfolding accept_to
  call_served z = ap (λ (m : ℕ). call_by m (accept_on l keys slots probes links a) keys slots probes links) (sym z ∙ e)

  pub call_refused : (n ≡ 0 → ⊥) → accept_result (Err n) keys slots probes links ≡ accept_to other l keys slots probes links a
  unfolding accept_to
  call_refused z =
      refused n z ∙ ap (λ (m : ℕ). call_by m (accept_on l keys slots probes links a) keys slots probes links) e
    where
      refused : (m : ℕ) → (m ≡ 0 → ⊥) → accept_result (Err m) keys slots probes links ≡ call_by m (accept_on l keys slots probes links a) keys slots probes links
      refused zero w = absurd (w refl)
      refused (suc m) w = refl
