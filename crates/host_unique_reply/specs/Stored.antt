-- The counts of replies in their words, group by group, as crate host_ledger has them: 11 to 14 totals, 15 to 18 answers, 19 to 22 numbers,
-- 23, 24 and 72 evictions. Assumes nothing.
use Rattle.std.specs.Prelude.{ℕ, Bool, List, [], ◌∷◌, slice_index, slice_set, Some}
use Rattle.std.proofs.lemmas.List.Edits.{sets}
use Rattle.replies.specs.declared.Answers.{Answers}
use Rattle.replies.specs.declared.Numbers.{Numbers}
use Rattle.replies.specs.declared.Evicted.{Evicted}
use Rattle.replies.specs.declared.Replies.{Replies}
use Rattle.replies.specs.Served.{tally, highest_after, is_reordered}
use Rattle.host_ledger.specs.Parts.{reflector_of, reflector_word, replies_words}
use Rattle.host_ledger.specs.Places as place

-- one more in the word at a place where the test holds
unfoldable pub raised : List ℕ → ℕ → Bool → List ℕ
raised w at test = slice_set w at (tally test (slice_index w at))

-- answered, additional, late, satisfied
abbrev pub answers_words : Answers → List ℕ
answers_words a = a.answered ∷ a.additional ∷ a.late ∷ a.satisfied ∷ []

-- after a reply with this reflector number: the last number, the highest, how many were reordered
abbrev pub order_words : List ℕ → ℕ → List ℕ
order_words w n =
    reflector_word (Some n) ∷ reflector_word (highest_after (reflector_of (slice_index w place.highest)) n)
    ∷ tally (is_reordered (reflector_of (slice_index w place.highest)) n) (slice_index w place.reordered) ∷ []

-- last, highest, reordered, independent
abbrev pub numbers_words : Numbers → List ℕ
numbers_words n = reflector_word n.last ∷ reflector_word n.highest ∷ n.reordered ∷ n.independent ∷ []

-- the evicted probes and keys, and the probes evicted unanswered, stored
abbrev pub evicted_stored : List ℕ → Evicted → List ℕ
evicted_stored w e = slice_set (sets w place.probes_evicted (e.probes ∷ e.replies ∷ [])) place.evicted_unanswered e.unanswered

-- all counts of replies, stored
unfoldable pub replies_stored : List ℕ → Replies → List ℕ
replies_stored w r = slice_set (sets w place.requested (replies_words r)) place.evicted_unanswered r.evicted.unanswered
