-- What `snapshot` returns and leaves in the words of a host: it refuses nothing. Assumes nothing.
use Rattle.std.specs.Prelude.{List, ℕ}
use Rattle.ledger_snapshot.specs.Snapshot.{snapshot_of}
use Rattle.host_snapshot_words.specs.Words.{shown_words}
use Rattle.host_ledger.specs.Words.{ledger_at}

-- the number returned, and the words shown
pub record Left : Type 0 where
  pub number : ℕ
  pub shown : List ℕ

-- what the call leaves, made of its number and the words shown
abbrev pub left : ℕ → List ℕ → Left
left number shown = record { number = number; shown = shown }

-- of the words of the ledger
unfoldable pub snapshot_leaves : List ℕ → Left
snapshot_leaves ledger = left 0 (shown_words (snapshot_of (ledger_at ledger)))
