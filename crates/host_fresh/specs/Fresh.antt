-- What `ambrulicciu_ledger_fresh` leaves. Assumes nothing.
use Rattle.std.specs.Prelude.{List, ℕ}
use Rattle.ledger_state.specs.State.{fresh_ledger}
use Rattle.host_ledger.specs.Left.{fresh_words}

-- the number returned, and the words of the ledger
pub record FreshLeft : Type 0 where
  pub number : ℕ
  pub ledger : List ℕ

-- what the call leaves, made of its number and the ledger's words
abbrev pub fresh_left : ℕ → List ℕ → FreshLeft
fresh_left number ledger = record { number = number; ledger = ledger }

-- the words of the library's fresh ledger, whatever stood there: it is never refused
unfoldable pub fresh_of : ℕ → List ℕ → FreshLeft
fresh_of copies secret = fresh_left 0 (fresh_words (fresh_ledger copies secret).copies (fresh_ledger copies secret).secret)
