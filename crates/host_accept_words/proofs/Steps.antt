-- The ways through `accept`, put together from what its callees promise. Assumes nothing.
use mathlib.Core.Path.{◌≡◌, refl, sym, ap, ◌∙◌}
use mathlib.Core.Bool.{Bool, true, false, ◌&&◌, ◌||◌, true≢false, false≢true}
use mathlib.Core.List.{List, [], ◌∷◌}
use Prim.Native.Nat.{ℕ, ◌≤◌, ◌<◌}
use lib.Dec.{ltb, leb}
use lib.ListN.{length}
use borrow.Author.Tests.{lt-ltb, le-ltb}
use Rattle.limits.specs.Limits.{capacity}
use Rattle.call_types.specs.declared.ReplyKey.{ReplyKey}
use Rattle.call_types.specs.declared.Reply.{Reply}
use Rattle.chains.specs.declared.Ring.{Ring}
use Rattle.chains.specs.Hash.{number_hash}
use Rattle.key_ring.specs.Table.{Table, table_of, find, accepted_key, hash_of}
use Rattle.probe_ring.specs.Row.{after_reply}
use Rattle.probe_ring.specs.Rooms.{Outcome, rooms, slot_of}
use Rattle.replies.specs.declared.Replies.{Replies}
use Rattle.replies.specs.declared.ReplyClass.{ReplyClass}
use Rattle.replies.specs.declared.ReplyClass.TheVariants.{Duplicate, Unknown, Unique}
use Rattle.replies.specs.Served.{class_by, after_unique}
use Rattle.ledger_state.specs.declared.Ledger.{Ledger}
use Rattle.ledger_state.specs.State.{hash_words}
use Rattle.ledger_state.specs.Refusal.{first_refusal, sized, rings_fit, room_for_call}
use Rattle.ledger_steps.specs.declared.Accepted.{Accepted}
use Rattle.ledger_steps.specs.Refusals.{refusal_of_accept}
use Rattle.ledger_steps.specs.Accept.{is_pending, ledger_unique, probe_at, replied_rows, context_of, readied, unique_in, accept_by, accept_in, accept_on, key_slot, probe_slot}
use Rattle.ledger_checks.specs.Sound.{SoundAccept}
use Rattle.ledger_checks.proofs.Order.{earlier_alone}
use Rattle.ledger_checks.proofs.Sound.{accept_sound}
use Rattle.ledger_accept.proofs.Steps.{unique_is, call_served, call_refused}
use Rattle.host_calls.specs.Calls as host_calls
use Rattle.host_ledger.specs.Words.{ledger_at}
use Rattle.host_ledger.specs.Left.{accepted_words}
use Rattle.host_accept_words.specs.Accept.{AcceptLeft, accept_left, accept_from, accept_of, served_leaves, duplicate_words, unknown_words}

-- ---- a unique reply: w the words, secret those of the hash that the code read

module _ (w : List ℕ) (secret : List ℕ) (same : secret ≡ hash_words (ledger_at w)) (keys slots : List (List ℕ)) (a : Reply) where
  abbrev by_key : ReplyKey → ℕ
  by_key = hash_of (hash_words (ledger_at w))

  abbrev by_number : ℕ → ℕ
  by_number = number_hash (hash_words (ledger_at w))

  -- the counts after it
  abbrev counted : ℕ → Bool → Bool → Replies
  counted before evicted lost =
      after_unique before (ledger_at w).copies (is_pending a.pending) a.key.sender a.key.reflector evicted lost
      (leb capacity (ledger_at w).tables.keys.len) (ledger_at w).counts.replies

  pub unique-left : (o : Outcome) (ring : Ring) (before : ℕ) (context : Accepted) (rows : List (List ℕ)) (t : Table) (w' answer' : List ℕ)
      → ring ≡ (ledger_at w).tables.keys
      → before ≡ (probe_at o.rows o.answer.slot).replies
      → context ≡ context_of (after_reply a.pending (probe_at o.rows o.answer.slot))
      → rows ≡ replied_rows o.rows o.answer.slot a.pending
      → t ≡ accepted_key capacity (hash_of secret) (number_hash secret) (table_of keys slots o.links ring) a.key
      → w' ≡ accepted_words w (ledger_unique (ledger_at w) t.ring o.answer.ring (counted before o.answer.evicted o.answer.lost))
      → answer' ≡ host_calls.accepted_words context
      → accept_left 0 w' t.keys t.slots rows t.links answer' ≡ served_leaves w (unique_in capacity by_key by_number (ledger_at w) keys slots o a)
  unique-left o ring before context rows t w' answer' er eb ec ew et hw ha =
      (λ i. accept_left 0 (hw i) t.keys t.slots rows t.links ((ha ∙ ap host_calls.accepted_words ec) i))
      ∙ ap (accept_from w answer')
      (unique_is capacity (ledger_at w) secret same keys slots a o before (context_of (after_reply a.pending (probe_at o.rows o.answer.slot))) rows
      (counted before o.answer.evicted o.answer.lost) t
      (ledger_unique (ledger_at w) t.ring o.answer.ring (counted before o.answer.evicted o.answer.lost))
      eb refl ew refl (et ∙ ap (λ (r : Ring). accepted_key capacity (hash_of secret) (number_hash secret) (table_of keys slots o.links r) a.key) er) refl)

  module _ (probes links : List (List ℕ)) where
    pub unique_as : (ring : Ring) (slot : ℕ) (o : Outcome) (x : AcceptLeft) → ring ≡ (ledger_at w).tables.probes
        → o ≡ readied capacity (hash_of secret) (number_hash secret) (rooms probes links ring) slot a.key a.pending
        → x ≡ served_leaves w (unique_in capacity by_key by_number (ledger_at w) keys slots o a)
        → x ≡ served_leaves w (unique_in capacity by_key by_number (ledger_at w) keys slots (readied capacity by_key by_number (rooms probes links (ledger_at w).tables.probes) slot a.key a.pending) a)
    unique_as ring slot o x er eo ex =
        ex ∙ ap (λ (y : Outcome). served_leaves w (unique_in capacity by_key by_number (ledger_at w) keys slots y a))
        (eo ∙ (λ i. readied capacity (hash_of (same i)) (number_hash (same i)) (rooms probes links (er i)) slot a.key a.pending))

-- ---- the class

class_unique : (held pending : Bool) → held || pending ≡ true → class_by false held pending ≡ Unique
class_unique true pending h = refl
class_unique false true h = refl
class_unique false false h = absurd (false≢true h)

class_unknown : (held pending : Bool) → held || pending ≡ false → class_by false held pending ≡ Unknown
class_unknown true pending h = absurd (true≢false h)
class_unknown false true h = absurd (true≢false h)
class_unknown false false h = refl

module _ (w : List ℕ) (secret : List ℕ) (same : secret ≡ hash_words (ledger_at w)) (keys slots probes links : List (List ℕ)) (a : Reply) where
  abbrev keyed : ReplyKey → ℕ
  keyed = hash_of (hash_words (ledger_at w))

  abbrev numbered : ℕ → ℕ
  numbered = number_hash (hash_words (ledger_at w))

  abbrev key_is : ℕ
  key_is = key_slot capacity keyed numbered (ledger_at w) keys links a.key

  abbrev probe_is : ℕ
  probe_is = probe_slot capacity keyed numbered (ledger_at w) probes links a.key

  class_as : (x : ReplyClass) → class_by (ltb key_is capacity) (ltb probe_is capacity) (is_pending a.pending) ≡ x
      → accept_by capacity keyed numbered x (ledger_at w) keys slots probes links probe_is a ≡ accept_on (ledger_at w) keys slots probes links a
  unfolding accept_in
  class_as x e = sym (ap (λ (y : ReplyClass). accept_by capacity keyed numbered y (ledger_at w) keys slots probes links probe_is a) e)

  -- the key, as the code looked for it
  pub found_is : (found : ℕ) (ring : Ring) → ring ≡ (ledger_at w).tables.keys → found ≡ find secret keys links ring a.key → found ≡ key_is
  found_is found ring er e = e ∙ (λ i. find (same i) keys links (er i) a.key)

  pub duplicate_is : (found : ℕ) (ring : Ring) (w' : List ℕ) → ring ≡ (ledger_at w).tables.keys → found ≡ find secret keys links ring a.key → found < capacity
      → w' ≡ duplicate_words w
      → accept_left 0 w' keys slots probes links (1 ∷ 0 ∷ 0 ∷ 0 ∷ 0 ∷ 0 ∷ []) ≡ served_leaves w (accept_on (ledger_at w) keys slots probes links a)
  unfolding duplicate_words
  duplicate_is found ring w' er e h hw =
      ap (λ (v : List ℕ). accept_left 0 v keys slots probes links (1 ∷ 0 ∷ 0 ∷ 0 ∷ 0 ∷ 0 ∷ [])) hw
      ∙ ap (served_leaves w)
      (class_as Duplicate
      (ap (λ (b : Bool). class_by b (ltb probe_is capacity) (is_pending a.pending)) (ap (λ (n : ℕ). ltb n capacity) (sym (found_is found ring er e)) ∙ lt-ltb found capacity h)))

  -- the probe, as the code looked for it, of a key that is not among the last accepted
  module _ (new : capacity ≤ key_is) (slot : ℕ) (ring : Ring) (pending : Bool) (er : ring ≡ (ledger_at w).tables.probes)
      (es : slot ≡ slot_of capacity (number_hash secret) (rooms probes links ring) a.key.sender) (ep : pending ≡ is_pending a.pending) where
    slot_is : slot ≡ probe_is
    slot_is = es ∙ (λ i. slot_of capacity (number_hash (same i)) (rooms probes links (er i)) a.key.sender)

    class_is : (x : ReplyClass) → class_by false (ltb slot capacity) pending ≡ x → class_by (ltb key_is capacity) (ltb probe_is capacity) (is_pending a.pending) ≡ x
    class_is x e = (λ i. class_by (le-ltb key_is capacity new i) (ltb (sym slot_is i) capacity) (sym ep i)) ∙ e

    pub other-unique : ltb slot capacity || pending ≡ true → (x : AcceptLeft)
        → x ≡ served_leaves w (unique_in capacity keyed numbered (ledger_at w) keys slots (readied capacity keyed numbered (rooms probes links (ledger_at w).tables.probes) slot a.key a.pending) a)
        → x ≡ served_leaves w (accept_on (ledger_at w) keys slots probes links a)
    other-unique h x e =
        e ∙ ap (λ (s : ℕ). served_leaves w (unique_in capacity keyed numbered (ledger_at w) keys slots (readied capacity keyed numbered (rooms probes links (ledger_at w).tables.probes) s a.key a.pending) a)) slot_is
        ∙ ap (served_leaves w) (class_as Unique (class_is Unique (class_unique (ltb slot capacity) pending h)))

    pub other-unknown : ltb slot capacity || pending ≡ false → (w' : List ℕ) → w' ≡ unknown_words w
        → accept_left 0 w' keys slots probes links (0 ∷ 0 ∷ 0 ∷ 0 ∷ 0 ∷ 0 ∷ []) ≡ served_leaves w (accept_on (ledger_at w) keys slots probes links a)
    unfolding unknown_words
    other-unknown h w' hw =
        ap (λ (v : List ℕ). accept_left 0 v keys slots probes links (0 ∷ 0 ∷ 0 ∷ 0 ∷ 0 ∷ 0 ∷ [])) hw
        ∙ ap (served_leaves w) (class_as Unknown (class_is Unknown (class_unknown (ltb slot capacity) pending h)))

-- ---- the call: n the number that the tests gave

module _ (w : List ℕ) (keys slots probes links : List (List ℕ)) (n : ℕ)
    (tested : n ≡ first_refusal (sized (length keys) && sized (length slots) && sized (length probes) && sized (length links) && rings_fit (ledger_at w)) true true (room_for_call (ledger_at w)) true true) where
  number_is : n ≡ refusal_of_accept 0 (ledger_at w) (length keys) (length slots) (length probes) (length links)
  unfolding refusal_of_accept
  number_is =
      tested
      ∙ earlier_alone (first_refusal (sized (length keys) && sized (length slots) && sized (length probes) && sized (length links) && rings_fit (ledger_at w)) true true (room_for_call (ledger_at w)) true true)

  pub sound : n ≡ 0 → SoundAccept (ledger_at w) (length keys) (length slots) (length probes) (length links)
  sound z = accept_sound 0 (ledger_at w) (length keys) (length slots) (length probes) (length links) (sym number_is ∙ z)

  module _ (answer : List ℕ) (a : Reply) where
    pub refused_is : (n ≡ 0 → ⊥) → accept_left n w keys slots probes links answer ≡ accept_of w keys slots probes links answer a
    unfolding accept_of
    refused_is h = ap (accept_from w answer) (call_refused 0 (ledger_at w) keys slots probes links a n number_is h)

    pub served_is : (made : Reply) (w' : List ℕ) (keys' slots' probes' links' : List (List ℕ)) (answer' : List ℕ) → n ≡ 0 → made ≡ a
        → accept_left 0 w' keys' slots' probes' links' answer' ≡ served_leaves w (accept_on (ledger_at w) keys slots probes links made)
        → accept_left n w' keys' slots' probes' links' answer' ≡ accept_of w keys slots probes links answer a
    unfolding accept_of
    served_is made w' keys' slots' probes' links' answer' z e h =
        (λ i. accept_left (z i) w' keys' slots' probes' links' answer')
        ∙ h
        ∙ ap (λ (r : Reply). served_leaves w (accept_on (ledger_at w) keys slots probes links r)) e
        ∙ ap (accept_from w answer) (call_served 0 (ledger_at w) keys slots probes links a n number_is z)
