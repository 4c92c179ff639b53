-- What `ambrulicciu_watched_accept_burst` returns and leaves: `ambrulicciu_watched_accept` for each entry, in list order. Assumes nothing.
use Rattle.std.specs.Prelude.{List, ◌∷◌, ℕ, get_or}
use Rattle.probe_queue.specs.declared.QueuedProbe.{QueuedProbe}
use Rattle.host_numbers.specs.Numbers.{lower, upper}
use Rattle.host_watched_accept_words.specs.Calls.{Left}
use Rattle.host_watched_accept.specs.Calls.{watched_accept_to}
use Rattle.host_burst.specs.Burst.{Single, Listed, single, burst_to}
use Rattle.host_burst.specs.Entries.{answer_in}

-- the words of the ledger and of the monitor, the four rooms and the queue
pub record Lent : Type 0 where
  pub ledger : List ℕ
  pub monitor : List ℕ
  pub keys : List (List ℕ)
  pub slots : List (List ℕ)
  pub probes : List (List ℕ)
  pub links : List (List ℕ)
  pub queue : List QueuedProbe

-- the record above, made of its parts in their order
abbrev pub lent : List ℕ → List ℕ → (keys slots probes links : List (List ℕ)) → List QueuedProbe → Lent
lent ledger monitor keys slots probes links queue =
    record { ledger = ledger; monitor = monitor; keys = keys; slots = slots; probes = probes; links = links; queue = queue }

-- what the single call leaves, and its row: its number, then its answer
abbrev pub rowed : Left → Single Lent
rowed r = single (lent r.ledger r.monitor r.keys r.slots r.probes r.links r.queue) (r.number ∷ r.answer)

-- the single call for an entry, whose answer's words are those of its row; the entry's words are those of `reply_at`
abbrev pub accept_entry : Lent → List ℕ → List ℕ → Single Lent
accept_entry x e row =
    rowed
    (watched_accept_to x.ledger x.monitor x.keys x.slots x.probes x.links x.queue (lower (get_or e 1 0)) (upper (get_or e 1 0)) (get_or e 0 0) (get_or e 2 0) (get_or e 3 0) (get_or e 4 0)
    (answer_in row))

-- the call for a list
unfoldable pub watched_burst : Lent → (entries rows : List (List ℕ)) → Listed Lent
watched_burst x entries rows = burst_to accept_entry x entries rows
