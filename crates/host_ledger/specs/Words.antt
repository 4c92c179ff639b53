-- A ledger in the 80 words that a host lends:
--   0 copies; 1 to 4 the words of the hash; 5 calls; 6, 7 head and length of the ring of keys; 8, 9 of probes; 10 whether a key awaits;
--   11 to 24 the counts of replies; 25 to 32 the round trips; 33 to 43 direct loss; 44 to 71 follow-ups (44 counts, 50 delays, 58 clock quality);
--   72 the probes evicted unanswered; 73 to 79 unused.
-- Any words say a ledger. Assumes nothing.
use Rattle.std.specs.Prelude.{List, [], ◌∷◌, ℕ, ◌+◌, ◌%◌, ◌^◌, get_or}
use Rattle.ledger_state.specs.declared.Tables.{Tables}
use Rattle.ledger_state.specs.declared.Ledger.{Ledger}
use Rattle.host_numbers.specs.Numbers.{flag_word, is_set}
use Rattle.host_ledger.specs.Parts.{secret_at, replies_at, delays_at, direct_at, follow_at}
use Rattle.host_ledger.specs.Places as place

-- in five words from `at` on: head and length of the ring of keys, those of probes, whether a key awaits
unfoldable pub tables_at : ℕ → List ℕ → Tables
tables_at at w = record {
  keys = record { head = get_or w at 0; len = get_or w (at + 1) 0 };
  probes = record { head = get_or w (at + 2) 0; len = get_or w (at + 3) 0 };
  awaits = is_set (get_or w (at + 4) 0);
}

-- the ledger that words say, each part at its place above; of copies the low 16 bits, a missing word is 0
unfoldable pub ledger_at : List ℕ → Ledger
ledger_at w = record {
  copies = get_or w place.copies 0 % 2 ^ 16;
  secret = secret_at place.secret1 w;
  calls = get_or w place.calls 0;
  tables = tables_at place.keys_head w;
  counts = record { replies = replies_at place.requested place.evicted_unanswered w; rtt = delays_at place.trips w; direct = direct_at place.direct w; follow = follow_at place.follow_ups w };
}

-- the words of both rings and of what awaits
abbrev pub tables_words : Tables → List ℕ
tables_words t = t.keys.head ∷ t.keys.len ∷ t.probes.head ∷ t.probes.len ∷ flag_word t.awaits ∷ []
