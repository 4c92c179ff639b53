-- What `ambrulicciu_accept_burst` returns and leaves: `ambrulicciu_accept` for each entry, in list order. Assumes nothing.
use Rattle.std.specs.Prelude.{List, ◌∷◌, ℕ}
use Rattle.host_accept_words.specs.Accept.{AcceptLeft, accept_of}
use Rattle.host_burst.specs.Burst.{Single, Listed, single, burst_to}
use Rattle.host_burst.specs.Entries.{reply_at, answer_in}

-- the words of the ledger and the four rooms
pub record Lent : Type 0 where
  pub ledger : List ℕ
  pub keys : List (List ℕ)
  pub slots : List (List ℕ)
  pub probes : List (List ℕ)
  pub links : List (List ℕ)

-- the record above, made of its parts in their order
abbrev pub lent : List ℕ → List (List ℕ) → List (List ℕ) → List (List ℕ) → List (List ℕ) → Lent
lent ledger keys slots probes links = record { ledger = ledger; keys = keys; slots = slots; probes = probes; links = links }

-- what the single call leaves, and its row: its number, then its answer
abbrev pub rowed : AcceptLeft → Single Lent
rowed r = single (lent r.ledger r.keys r.slots r.probes r.links) (r.number ∷ r.answer)

-- the single call for an entry, whose answer's words are those of its row
abbrev pub accept_entry : Lent → List ℕ → List ℕ → Single Lent
accept_entry x e row = rowed (accept_of x.ledger x.keys x.slots x.probes x.links (answer_in row) (reply_at e))

-- the call for a list
unfoldable pub accept_burst : Lent → (entries rows : List (List ℕ)) → Listed Lent
accept_burst x entries rows = burst_to accept_entry x entries rows
