-- What the library's `sent` leaves of the words and the rooms that a host lends. Assumes nothing.
use Rattle.ledger_state.specs.declared.Ledger.{Ledger}
use Rattle.std.specs.Prelude.{List, ℕ, Result, Ok, Err}
use Rattle.ledger_steps.specs.Sent.{SentOutcome}
use Rattle.ledger_steps.specs.Calls.{SentResult, number}
use Rattle.host_ledger.specs.Left.{sent_words}

-- the number returned, the words of the ledger and the two rooms
pub record SentLeft : Type 0 where
  pub number : ℕ
  pub ledger : List ℕ
  pub probes : List (List ℕ)
  pub links : List (List ℕ)

-- what the call leaves, made of its number, the ledger's words and the two rooms
abbrev pub sent_left : ℕ → List ℕ → List (List ℕ) → List (List ℕ) → SentLeft
sent_left number ledger probes links = record { number = number; ledger = ledger; probes = probes; links = links }

-- the words after an answer: a refusal changes none
abbrev pub words_after : List ℕ → Result Ledger ℕ → List ℕ
words_after w (Ok next) = sent_words w next
words_after w (Err n) = w

-- what the library's result leaves of the words w: its number, 0 where served, and its two rooms
abbrev pub sent_from : List ℕ → SentResult → SentLeft
sent_from w r = sent_left (number r.answer) (words_after w r.answer) r.probes r.links

-- a served call
abbrev pub served_leaves : List ℕ → SentOutcome → SentLeft
served_leaves w o = sent_left 0 (sent_words w o.ledger) o.probes o.links
