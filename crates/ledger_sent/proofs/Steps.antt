-- What each function of the crate leaves, from what its callees ensure. Assumes nothing.
use Rattle.std.specs.Prelude.{Some, Ok, Err}
use mathlib.Core.Path.{◌≡◌, refl, sym, ap, ◌∙◌}
use mathlib.Core.Bool.{Bool, false, cond}
use mathlib.Core.List.{List, []}
use Prim.Native.Nat.{ℕ, zero, suc, ◌+◌, ◌<◌, ◌≤◌}
use lib.ListN.{length, get_or}
use borrow.Author.Tests.{lt-ltb, le-ltb}
use Rattle.limits.specs.Limits.{capacity}
use Rattle.call_types.specs.declared.ReplyKey.{ReplyKey}
use Rattle.call_types.specs.declared.SentProbe.{SentProbe}
use Rattle.chains.specs.Hash.{number_hash}
use Rattle.key_ring.specs.Table.{hash_of}
use Rattle.probe_ring.specs.declared.HeldProbe.{HeldProbe}
use Rattle.probe_ring.specs.declared.Remembered.{Remembered}
use Rattle.probe_ring.specs.Row.{unanswered, is_answered, held_probe_of}
use Rattle.probe_ring.specs.Rooms.{rooms, outcome, remembered, slot_of}
use Rattle.replies.specs.declared.Replies.{Replies}
use Rattle.replies.specs.Served.{after_sent}
use Rattle.ledger_state.specs.declared.Ledger.{Ledger}
use Rattle.ledger_state.specs.State.{words_of}
use Rattle.ledger_steps.specs.Refusals.{refusal_of_sent, refusal_of_answered}
use Rattle.ledger_steps.specs.Sent.{sent_with, sent_in, sent_on}
use Rattle.ledger_steps.specs.Readers.{answered_at, answered_in, answered_on}
use Rattle.ledger_steps.specs.Calls.{sent_result, sent_by, sent_to, answered_by, answered_to}
use Rattle.ledger_sent.specs.Left.{left}

-- ---- `served`

-- the ledger with another ring of probes and other counts of replies, and one call more
abbrev pub next : Ledger → Remembered → Replies → Ledger
next l kept replies = record {
  copies = l.copies;
  secret = l.secret;
  calls = l.calls + 1;
  tables = record { keys = l.tables.keys; probes = kept.ring; awaits = l.tables.awaits };
  counts = record { replies = replies; rtt = l.counts.rtt; direct = l.counts.direct; follow = l.counts.follow };
}

module _ (l : Ledger) (probes links : List (List ℕ)) (s : SentProbe) where
  pub remembered-is :
      (words : List ℕ) (kept : Remembered) (probes' links' : List (List ℕ)) (replies : Replies) →
      words ≡ words_of l.secret →
      outcome probes' links' kept ≡ remembered capacity (number_hash words) (rooms probes links l.tables.probes) (unanswered s.sequence s.packet (Some s.ordinal) s.train) →
      replies ≡ after_sent l.copies kept.evicted kept.lost l.counts.replies →
      left (next l kept replies) probes' links' ≡ sent_on l probes links s
  unfolding sent_in
  remembered-is words kept probes' links' replies w e r =
      (λ i. left (next l kept (r i)) probes' links')
      ∙ ap (sent_with l) e
      ∙ ap (λ (ws : List ℕ). sent_in capacity (number_hash ws) l probes links s) w

-- ---- a `sent` that is refused

module _ (other : ℕ) (l : Ledger) (probes links : List (List ℕ)) (s : SentProbe) where
  pub refused_is :
      (n : ℕ) → n ≡ refusal_of_sent other l (length probes) (length links) → (n ≡ 0 → ⊥) →
      sent_result (Err n) probes links ≡ sent_to other l probes links s
  unfolding sent_to
  refused_is zero e h = absurd (h refl)
  refused_is (suc n) e h = ap (λ (k : ℕ). sent_by k (sent_on l probes links s) probes links) e

-- ---- `answered`

module _ (by_key : ReplyKey → ℕ) (by_number : ℕ → ℕ) (probes : List (List ℕ)) (found at : ℕ) (e : found ≡ at) where
  pub held_is :
      (p : HeldProbe) (r : Bool) → found < capacity → p ≡ held_probe_of (get_or probes found []) → r ≡ is_answered p → r ≡ answered_at capacity by_key by_number probes at
  held_is p r h pe re =
      re ∙ ap is_answered pe
      ∙ ap (λ (t : Bool). cond t (is_answered (held_probe_of (get_or probes found []))) false) (sym (lt-ltb found capacity h))
      ∙ ap (answered_at capacity by_key by_number probes) e

  pub unheld_is : capacity ≤ found → false ≡ answered_at capacity by_key by_number probes at
  unheld_is h =
      ap (λ (t : Bool). cond t (is_answered (held_probe_of (get_or probes found []))) false) (sym (le-ltb found capacity h))
      ∙ ap (answered_at capacity by_key by_number probes) e

module _ (l : Ledger) (probes links : List (List ℕ)) (s : ℕ) where
  pub answered-refused :
      (n : ℕ) → n ≡ refusal_of_answered l (length probes) (length links) → (n ≡ 0 → ⊥) → Err n ≡ answered_to l probes links s
  unfolding answered_to
  answered-refused zero e h = absurd (h refl)
  answered-refused (suc n) e h = ap (λ (k : ℕ). answered_by k (answered_on l probes links s)) e

  pub answered-served :
      (n : ℕ) (words : List ℕ) (b : Bool) → n ≡ refusal_of_answered l (length probes) (length links) → n ≡ 0 → words ≡ words_of l.secret →
      b ≡ answered_at capacity (hash_of words) (number_hash words) probes (slot_of capacity (number_hash words) (rooms probes links l.tables.probes) s) →
      Ok b ≡ answered_to l probes links s
  unfolding answered_to answered_in
  answered-served n words b e z w h =
      ap Ok h
      ∙ ap (λ (ws : List ℕ). Ok (answered_at capacity (hash_of ws) (number_hash ws) probes (slot_of capacity (number_hash ws) (rooms probes links l.tables.probes) s))) w
      ∙ ap (λ (k : ℕ). answered_by k (answered_on l probes links s)) (sym z ∙ e)
