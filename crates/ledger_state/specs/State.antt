-- The ledger's state by value, and what "fresh" is: "counts 0, rings and slots empty, whatever its rooms held".
use Rattle.std.specs.Prelude.{Bool, true, false, cond, List, [], ◌∷◌, ℕ, eqb, get_or}
use Rattle.chains.specs.declared.Ring.{Ring}
use Rattle.replies.specs.Served.{fresh_replies}
use Rattle.direct.specs.Outcomes.{fresh_direct}
use Rattle.follow_ups.specs.Followed.{fresh_follow_ups}
use Rattle.delays.specs.Delays as delays
use Rattle.ledger_state.specs.declared.Tables.{Tables}
use Rattle.ledger_state.specs.declared.Counts.{Counts}
use Rattle.ledger_state.specs.declared.Secret.{Secret}
use Rattle.ledger_state.specs.declared.Ledger.{Ledger}

-- "Copies 0 counts as 1."
abbrev pub at_least_one : ℕ → ℕ
at_least_one copies = cond (eqb copies 0) 1 copies

-- no entries, the next at slot 0
abbrev pub empty_ring : Ring
empty_ring = record { head = 0; len = 0 }

-- no accepted key, no held probe, and no key awaits
abbrev pub fresh_tables : Tables
fresh_tables = record { keys = empty_ring; probes = empty_ring; awaits = false }

-- counts 0: replies, round trips, direct loss without an anchor, follow-ups
abbrev pub fresh_counts : Counts
fresh_counts = record { replies = fresh_replies; rtt = delays.fresh; direct = fresh_direct; follow = fresh_follow_ups }

-- the eight words of the hash, held one by one; one that the list does not have is 0
unfoldable pub secret_of : List ℕ → Secret
secret_of words = record {
  first = get_or words 0 0;
  second = get_or words 1 0;
  third = get_or words 2 0;
  fourth = get_or words 3 0;
  fifth = get_or words 4 0;
  sixth = get_or words 5 0;
  seventh = get_or words 6 0;
  eighth = get_or words 7 0;
}

-- the same as the list that they are, first to eighth
unfoldable pub words_of : Secret → List ℕ
words_of s =
    s.first ∷ s.second ∷ s.third ∷ s.fourth ∷ s.fifth ∷ s.sixth ∷ s.seventh ∷ s.eighth ∷ []

-- the words of a ledger's hash
abbrev pub hash_words : Ledger → List ℕ
hash_words l = words_of l.secret

-- with these copies and words of the hash; no call served yet
abbrev pub fresh_ledger : ℕ → List ℕ → Ledger
fresh_ledger copies secret = record { copies = at_least_one copies; secret = secret_of secret; calls = 0; tables = fresh_tables; counts = fresh_counts }
