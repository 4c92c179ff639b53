-- What `answered` returns and leaves in the words of a host, on every input. A refusal leaves the answer as it was. Assumes nothing.
use Rattle.std.specs.Prelude.{List, [], ◌∷◌, ℕ, Result, Ok, Err, Bool}
use Rattle.ledger_steps.specs.Calls.{answered_to}
use Rattle.host_numbers.specs.Numbers.{flag_word}
use Rattle.host_ledger.specs.Words.{ledger_at}

-- the number returned, and the answer's word
pub record Left : Type 0 where
  pub number : ℕ
  pub answer : List ℕ

-- what the call leaves, made of its number and the answer's word
abbrev pub left : ℕ → List ℕ → Left
left number answer = record { number = number; answer = answer }

-- served: 1 where the probe is held and has a reply, else 0
abbrev pub left_by : Result Bool ℕ → List ℕ → Left
left_by (Ok b) before = left 0 (flag_word b ∷ [])
left_by (Err n) before = left n before

-- of the words of the ledger, the rooms of the probes and of the links, the sequence, and the answer before the call
unfoldable pub answered_leaves : List ℕ → List (List ℕ) → List (List ℕ) → ℕ → List ℕ → Left
answered_leaves ledger probes links sequence before = left_by (answered_to (ledger_at ledger) probes links sequence) before
