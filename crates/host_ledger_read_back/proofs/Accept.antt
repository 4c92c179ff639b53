-- The words that a served `accept` leaves are read back as the library's next ledger.
-- Assumes nothing.
use Rattle.std.specs.Prelude.{Option, Some, None}
use mathlib.Core.Path.{◌≡◌, refl, ap, ◌∙◌}
use mathlib.Core.Bool.{Bool, true, false, not, cond}
use mathlib.Core.List.{List}
use Prim.Native.Nat.{ℕ, ◌<◌, ◌^◌}
use native.Mathlib.Omega.{arith}
use lib.ListN.{length, get_or}
use lib.Dec.{eqb, ltb}
use Rattle.limits.specs.Limits.{capacity}
use Rattle.call_types.specs.declared.ReplyKey.{ReplyKey}
use Rattle.call_types.specs.declared.PendingPacket.{PendingPacket}
use Rattle.call_types.specs.declared.Reply.{Reply}
use Rattle.chains.specs.declared.Ring.{Ring}
use Rattle.chains.specs.Hash.{number_hash}
use Rattle.key_ring.specs.Table.{hash_of}
use Rattle.replies.specs.declared.Replies.{Replies}
use Rattle.replies.specs.declared.ReplyClass.{ReplyClass}
use Rattle.replies.specs.declared.ReplyClass.TheVariants as class
use Rattle.replies.specs.Served.{step_from, highest_by, highest_after, after_duplicate, after_unknown, after_unique, class_by}
use Rattle.ledger_state.specs.declared.Ledger.{Ledger}
use Rattle.ledger_state.specs.State.{hash_words}
use Rattle.ledger_steps.specs.declared.Accepted.{Accepted}
use Rattle.ledger_steps.specs.declared.Accepted.TheVariants.{Duplicate, Unknown, Unique}
use Rattle.ledger_steps.specs.Accept.{ledger_counted, ledger_unique, key_slot, probe_slot, is_pending, unique_in, accept_by, accept_in, accept_on}
use Rattle.host_numbers.specs.Numbers.{lower, is_set}
use Rattle.host_quality.specs.Words.{quality_at}
use Rattle.host_ledger.specs.Parts.{secret_at, reflector_of, reflector_word, ReflectorKept, replies_at, replies_words, delays_of, window_at, direct_at, follow_at}
use Rattle.host_ledger.specs.Words.{tables_at, ledger_at}
use Rattle.host_ledger.specs.Left.{counted_words, accepted_words}
use Rattle.host_ledger.proofs.Back.{reflector_again}
use Rattle.host_ledger_read_back.proofs.Spelled.{entries, spelled}

-- ---- a duplicate or unknown reply

-- the ledger with what is stored of the next one
abbrev with_counted : Ledger → Ledger → Ledger
with_counted l next = record {
  copies = l.copies;
  secret = l.secret;
  calls = next.calls;
  tables = l.tables;
  counts = record {
    replies = record {
      totals = record {
        requested = l.counts.replies.totals.requested;
        unique = l.counts.replies.totals.unique;
        duplicate = next.counts.replies.totals.duplicate;
        unknown = next.counts.replies.totals.unknown;
      };
      answers = l.counts.replies.answers;
      numbers = l.counts.replies.numbers;
      evicted = l.counts.replies.evicted;
    };
    rtt = l.counts.rtt;
    direct = l.counts.direct;
    follow = l.counts.follow;
  };
}

counted_reads : (w : List ℕ) (next : Ledger) → ledger_at (counted_words (entries 80 (λ i. get_or w i 0)) next) ≡ with_counted (ledger_at w) next
unfolding ledger_at counted_words tables_at secret_at replies_at delays_of window_at direct_at follow_at quality_at
counted_reads w next = refl

counted-by : (w : List ℕ) → length w ≡ 80 → (next : Ledger) → with_counted (ledger_at w) next ≡ next → ledger_at (counted_words w next) ≡ next
counted-by w long next e = ap (λ (v : List ℕ). ledger_at (counted_words v next)) (spelled w 80 long) ∙ counted_reads w next ∙ e

pub duplicate-back : (w : List ℕ) → length w ≡ 80
    → ledger_at (counted_words w (ledger_counted (ledger_at w) (after_duplicate (ledger_at w).counts.replies))) ≡ ledger_counted (ledger_at w) (after_duplicate (ledger_at w).counts.replies)
unfolding after_duplicate
duplicate-back w long = counted-by w long (ledger_counted (ledger_at w) (after_duplicate (ledger_at w).counts.replies)) refl

pub unknown-back : (w : List ℕ) → length w ≡ 80
    → ledger_at (counted_words w (ledger_counted (ledger_at w) (after_unknown (ledger_at w).counts.replies))) ≡ ledger_counted (ledger_at w) (after_unknown (ledger_at w).counts.replies)
unfolding after_unknown
unknown-back w long = counted-by w long (ledger_counted (ledger_at w) (after_unknown (ledger_at w).counts.replies)) refl

-- ---- a unique reply

-- the counts with other reflector numbers
abbrev numbered : Replies → Option ℕ → Option ℕ → Replies
numbered r last highest = record {
  totals = r.totals;
  answers = r.answers;
  numbers = record { last = last; highest = highest; reordered = r.numbers.reordered; independent = r.numbers.independent };
  evicted = r.evicted;
}

accepted_reads : (w : List ℕ) (keys probes : Ring) (r : Replies)
    → ledger_at (accepted_words (entries 80 (λ i. get_or w i 0)) (ledger_unique (ledger_at w) keys probes r))
    ≡ ledger_unique (ledger_at w) keys probes (numbered r (reflector_of (reflector_word r.numbers.last)) (reflector_of (reflector_word r.numbers.highest)))
unfolding ledger_at accepted_words replies_words tables_at secret_at replies_at delays_of window_at direct_at follow_at quality_at
accepted_reads w keys probes r = refl

accepted-by : (w : List ℕ) → length w ≡ 80 → (keys probes : Ring) (r : Replies) → ReflectorKept r.numbers.last → ReflectorKept r.numbers.highest
    → ledger_at (accepted_words w (ledger_unique (ledger_at w) keys probes r)) ≡ ledger_unique (ledger_at w) keys probes r
accepted-by w long keys probes r last highest =
    ap (λ (v : List ℕ). ledger_at (accepted_words v (ledger_unique (ledger_at w) keys probes r))) (spelled w 80 long)
    ∙ accepted_reads w keys probes r
    ∙ (λ i. ledger_unique (ledger_at w) keys probes (numbered r (last i) (highest i)))

-- the highest reflector number after a reply, where the one before it came from a word
highest-by : (same back : Bool) (high reflector : ℕ) → high < 2 ^ 32 → reflector < 2 ^ 32 → ReflectorKept (highest_by same back high reflector)
highest-by true back high reflector h k = reflector_again high h
highest-by false true high reflector h k = reflector_again high h
highest-by false false high reflector h k = reflector_again reflector k

highest_of : (b : Bool) (word reflector : ℕ) → reflector < 2 ^ 32 → ReflectorKept (highest_after (cond b (Some (lower word)) None) reflector)
highest_of true word reflector k = highest-by (eqb (step_from (lower word) reflector) 0) (not (ltb (step_from (lower word) reflector) (2 ^ 31))) (lower word) reflector (omega arith) k
highest_of false word reflector k = reflector_again reflector k

pub unique-back : (w : List ℕ) → length w ≡ 80 → (keys probes : Ring) (replies copies : ℕ) (pending : Bool) (sender reflector : ℕ) (probe lost key : Bool) → reflector < 2 ^ 32
    → ledger_at (accepted_words w (ledger_unique (ledger_at w) keys probes (after_unique replies copies pending sender reflector probe lost key (ledger_at w).counts.replies)))
    ≡ ledger_unique (ledger_at w) keys probes (after_unique replies copies pending sender reflector probe lost key (ledger_at w).counts.replies)
unfolding after_unique ledger_at replies_at
unique-back w long keys probes replies copies pending sender reflector probe lost key h =
    accepted-by w long keys probes (after_unique replies copies pending sender reflector probe lost key (ledger_at w).counts.replies)
    (reflector_again reflector h) (highest_of (is_set (get_or w 20 0)) (get_or w 20 0) reflector h)

-- ---- any reply: S is what a call stores, by what the reply is
module _ (w : List ℕ) (long : length w ≡ 80) (S : Ledger → Accepted → List ℕ) (at-duplicate : (l : Ledger) → S l Duplicate ≡ counted_words w l)
    (at-unknown : (l : Ledger) → S l Unknown ≡ counted_words w l) (at-unique : (l : Ledger) (packet : PendingPacket) (ordinal : Option ℕ) (train : ℕ) → S l (Unique packet ordinal train) ≡ accepted_words w l) where
  by_class : (N : ℕ) (by_key : ReplyKey → ℕ) (by_number : ℕ → ℕ) (c : ReplyClass) (keys slots probes links : List (List ℕ)) (at : ℕ) (a : Reply) → a.key.reflector < 2 ^ 32
      → ledger_at (S (accept_by N by_key by_number c (ledger_at w) keys slots probes links at a).ledger (accept_by N by_key by_number c (ledger_at w) keys slots probes links at a).accepted)
      ≡ (accept_by N by_key by_number c (ledger_at w) keys slots probes links at a).ledger
  unfolding unique_in
  by_class N by_key by_number class.Duplicate keys slots probes links at a h = ap ledger_at (at-duplicate _) ∙ duplicate-back w long
  by_class N by_key by_number class.Unknown keys slots probes links at a h = ap ledger_at (at-unknown _) ∙ unknown-back w long
  by_class N by_key by_number class.Unique keys slots probes links at a h = ap ledger_at (at-unique _ _ _ _) ∙ unique-back w long _ _ _ _ _ _ _ _ _ _ h

  pub accept-back : (keys slots probes links : List (List ℕ)) (a : Reply) → a.key.reflector < 2 ^ 32
      → ledger_at (S (accept_on (ledger_at w) keys slots probes links a).ledger (accept_on (ledger_at w) keys slots probes links a).accepted)
      ≡ (accept_on (ledger_at w) keys slots probes links a).ledger
  unfolding accept_in
  accept-back keys slots probes links a h =
      let by_key = hash_of (hash_words (ledger_at w)) in
      let by_number = number_hash (hash_words (ledger_at w)) in
      let at = probe_slot capacity by_key by_number (ledger_at w) probes links a.key in
      by_class capacity by_key by_number (class_by (ltb (key_slot capacity by_key by_number (ledger_at w) keys links a.key) capacity) (ltb at capacity) (is_pending a.pending)) keys slots probes links at a h
