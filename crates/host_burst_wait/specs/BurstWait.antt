-- What `needs_burst_wait` returns and leaves in the words of a host. Assumes nothing.
use Rattle.std.specs.Prelude.{cond, List, [], ◌∷◌, ℕ}
use Rattle.limits.specs.Refusals.{wrong_room}
use Rattle.ledger_state.specs.BurstWait.{burst_wait}
use Rattle.ledger_state.specs.Refusal.{rings_fit}
use Rattle.host_numbers.specs.Numbers.{flag_word}
use Rattle.host_ledger.specs.Words.{ledger_at}

-- the number returned, and the answer's word
pub record Left : Type 0 where
  pub number : ℕ
  pub answer : List ℕ

-- the record above, made of its parts in their order
abbrev pub left : ℕ → List ℕ → Left
left number answer = record { number = number; answer = answer }

-- of the words of the ledger: 5 where a ring is out of place, and then the answer's word stays
unfoldable pub burst_wait_leaves : List ℕ → List ℕ → Left
burst_wait_leaves ledger answer = cond (rings_fit (ledger_at ledger)) (left 0 (flag_word (burst_wait (ledger_at ledger)) ∷ [])) (left wrong_room answer)
