-- The words of the ledger after a served `accept`, with a monitor and without. Assumes nothing.
use Rattle.std.specs.Prelude.{List, ℕ}
use Rattle.ledger_state.specs.declared.Ledger.{Ledger}
use Rattle.ledger_steps.specs.declared.Accepted.{Accepted}
use Rattle.ledger_steps.specs.declared.Accepted.TheVariants.{Duplicate, Unknown, Unique}
use Rattle.host_ledger.specs.Left.{counted_words, accepted_words}

-- a duplicate and an unknown reply change calls and two counts, a unique one all that is said of replies
abbrev pub served_words : List ℕ → Ledger → Accepted → List ℕ
served_words w next Duplicate = counted_words w next
served_words w next Unknown = counted_words w next
served_words w next (Unique packet ordinal train) = accepted_words w next
