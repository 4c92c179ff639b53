-- The words that a served `sent` leaves are read back as the library's next ledger.
-- Assumes nothing.
use mathlib.Core.Path.{◌≡◌, refl, ap, ◌∙◌}
use mathlib.Core.List.{List}
use Prim.Native.Nat.{ℕ}
use lib.ListN.{length, get_or}
use Rattle.call_types.specs.declared.SentProbe.{SentProbe}
use Rattle.replies.specs.Served.{after_sent}
use Rattle.ledger_state.specs.declared.Ledger.{Ledger}
use Rattle.ledger_steps.specs.Sent.{sent_in, sent_on}
use Rattle.host_quality.specs.Words.{quality_at}
use Rattle.host_ledger.specs.Parts.{secret_at, replies_at, delays_of, window_at, direct_at, follow_at}
use Rattle.host_ledger.specs.Words.{tables_at, ledger_at}
use Rattle.host_ledger.specs.Left.{sent_words}
use Rattle.host_ledger_read_back.proofs.Spelled.{entries, spelled}

-- the ledger with what `sent` stores of the next one
abbrev with_sent : Ledger → Ledger → Ledger
with_sent l next = record {
  copies = l.copies;
  secret = l.secret;
  calls = next.calls;
  tables = record { keys = l.tables.keys; probes = next.tables.probes; awaits = l.tables.awaits };
  counts = record {
    replies = record {
      totals = record {
        requested = next.counts.replies.totals.requested;
        unique = l.counts.replies.totals.unique;
        duplicate = l.counts.replies.totals.duplicate;
        unknown = l.counts.replies.totals.unknown;
      };
      answers = l.counts.replies.answers;
      numbers = l.counts.replies.numbers;
      evicted = record { probes = next.counts.replies.evicted.probes; replies = l.counts.replies.evicted.replies; unanswered = next.counts.replies.evicted.unanswered };
    };
    rtt = l.counts.rtt;
    direct = l.counts.direct;
    follow = l.counts.follow;
  };
}

reads : (w : List ℕ) (next : Ledger) → ledger_at (sent_words (entries 80 (λ i. get_or w i 0)) next) ≡ with_sent (ledger_at w) next
unfolding ledger_at sent_words tables_at secret_at replies_at delays_of window_at direct_at follow_at quality_at
reads w next = refl

-- `sent` changes nothing else
changes : (l : Ledger) (probes links : List (List ℕ)) (s : SentProbe) → with_sent l (sent_on l probes links s).ledger ≡ (sent_on l probes links s).ledger
unfolding sent_in after_sent
changes l probes links s = refl

pub sent_back : (w : List ℕ) → length w ≡ 80 → (probes links : List (List ℕ)) (s : SentProbe)
    → ledger_at (sent_words w (sent_on (ledger_at w) probes links s).ledger) ≡ (sent_on (ledger_at w) probes links s).ledger
sent_back w long probes links s =
    let next = (sent_on (ledger_at w) probes links s).ledger in
    ap (λ (v : List ℕ). ledger_at (sent_words v next)) (spelled w 80 long) ∙ reads w next ∙ changes (ledger_at w) probes links s
