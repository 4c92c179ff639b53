-- The words that each call leaves: those that it changes are those of the next ledger, and the others stay. Assumes nothing.
use Rattle.call_types.specs.declared.CounterPoint.{CounterPoint}
use Rattle.std.specs.Prelude.{cond, List, ◌∷◌, ◌++◌, ℕ, eqb, get_or, set, replicate, Option, Some, None}
use Rattle.std.proofs.lemmas.List.Edits.{sets}
use Rattle.direct.specs.declared.Direct.{Direct}
use Rattle.follow_ups.specs.declared.FollowUps.{FollowUps}
use Rattle.ledger_state.specs.declared.Secret.{Secret}
use Rattle.ledger_state.specs.declared.Ledger.{Ledger}
use Rattle.host_numbers.specs.Numbers.{flag_word}
use Rattle.host_ledger.specs.Parts.{secret_words, replies_words, delays_words, direct_words, follow_counts_words, follow_words}
use Rattle.host_ledger.specs.Words.{tables_words}
use Rattle.host_ledger.specs.Places as place

-- a fresh ledger: copies, the words of the hash, and all other words 0
unfoldable pub fresh_words : ℕ → Secret → List ℕ
fresh_words copies secret = copies ∷ (secret_words secret ++ replicate 75 0)

-- `sent`: calls, the ring of probes, how many replies are requested, how many probes were evicted, and how many of those unanswered
unfoldable pub sent_words : List ℕ → Ledger → List ℕ
sent_words w l =
    set (set (set (set (set (set w place.calls l.calls) place.probes_head l.tables.probes.head) place.probes_len l.tables.probes.len) place.requested l.counts.replies.totals.requested)
    place.probes_evicted l.counts.replies.evicted.probes) place.evicted_unanswered l.counts.replies.evicted.unanswered

-- `accept` of a duplicate or an unknown reply: calls and the two counts
unfoldable pub counted_words : List ℕ → Ledger → List ℕ
counted_words w l = set (set (set w place.calls l.calls) place.duplicate l.counts.replies.totals.duplicate) place.unknown l.counts.replies.totals.unknown

-- `accept` of a unique reply: calls, both rings, that a key awaits, the counts of replies
unfoldable pub accepted_words : List ℕ → Ledger → List ℕ
accepted_words w l =
    set (sets (sets (set w place.calls l.calls) place.keys_head (tables_words l.tables)) place.requested (replies_words l.counts.replies))
    place.evicted_unanswered l.counts.replies.evicted.unanswered

-- direct loss is stored where counters were told
abbrev pub direct_stored : Option CounterPoint → List ℕ → Direct → List ℕ
direct_stored None w d = w
direct_stored (Some c) w d = sets w place.direct (direct_words d)

-- of the follow-ups the counts are stored; delays and clock quality only where one matched, which the count says
abbrev pub follow_stored : List ℕ → FollowUps → List ℕ
follow_stored w f = cond (eqb f.counts.matched (get_or w place.matched 0)) (sets w place.follow_ups (follow_counts_words f.counts)) (sets w place.follow_ups (follow_words f))

-- `observe`: calls, that no key awaits, round trips, direct loss and follow-ups
unfoldable pub observed_words : Option CounterPoint → List ℕ → Ledger → List ℕ
observed_words told w l =
    follow_stored
    (direct_stored told (sets (set (set w place.calls l.calls) place.awaits (flag_word l.tables.awaits)) place.trips (delays_words l.counts.rtt)) l.counts.direct)
    l.counts.follow
