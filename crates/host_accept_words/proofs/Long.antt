-- The words that `accept` leaves are as many as before. Assumes nothing.
use mathlib.Core.Path.{◌≡◌, ◌∙◌}
use mathlib.Core.List.{List}
use Prim.Native.Nat.{ℕ}
use lib.ListN.{length, set, length-set}
use lib.Seq.{sets, length-sets}
use Rattle.ledger_state.specs.declared.Ledger.{Ledger}
use Rattle.ledger_steps.specs.declared.Accepted.{Accepted}
use Rattle.ledger_steps.specs.declared.Accepted.TheVariants.{Duplicate, Unknown, Unique}
use Rattle.host_ledger.specs.Parts.{replies_words}
use Rattle.host_ledger.specs.Words.{tables_words}
use Rattle.host_ledger.specs.Left.{counted_words, accepted_words}
use Rattle.host_accept_words.specs.Served.{served_words}

counted-long : (w : List ℕ) (next : Ledger) → length (counted_words w next) ≡ length w
unfolding counted_words
counted-long w next =
    let first = set w 5 next.calls in
    let second = set first 13 next.counts.replies.totals.duplicate in
    length-set second 14 next.counts.replies.totals.unknown ∙ length-set first 13 next.counts.replies.totals.duplicate ∙ length-set w 5 next.calls

accepted-long : (w : List ℕ) (next : Ledger) → length (accepted_words w next) ≡ length w
unfolding accepted_words
accepted-long w next =
    let first = set w 5 next.calls in
    length-set (sets (sets first 6 (tables_words next.tables)) 11 (replies_words next.counts.replies)) 72 next.counts.replies.evicted.unanswered
    ∙ length-sets (sets first 6 (tables_words next.tables)) 11 (replies_words next.counts.replies) ∙ length-sets first 6 (tables_words next.tables) ∙ length-set w 5 next.calls

pub served-long : (w : List ℕ) (next : Ledger) (a : Accepted) → length (served_words w next a) ≡ length w
served-long w next Duplicate = counted-long w next
served-long w next Unknown = counted-long w next
served-long w next (Unique packet ordinal train) = accepted-long w next
