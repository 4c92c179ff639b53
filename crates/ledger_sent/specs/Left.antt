-- What a served `sent` leaves, put together from its parts. Assumes nothing.
use Rattle.std.specs.Prelude.{List, ℕ}
use Rattle.ledger_state.specs.declared.Ledger.{Ledger}
use Rattle.ledger_steps.specs.Sent.{SentOutcome}

-- this ledger and these rooms
abbrev pub left : Ledger → List (List ℕ) → List (List ℕ) → SentOutcome
left l probes links = record { ledger = l; probes = probes; links = links }
