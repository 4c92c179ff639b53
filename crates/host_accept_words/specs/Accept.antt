-- What `ambrulicciu_accept` returns and leaves: the library's `accept` on the ledger that the words say. Assumes nothing.
use Rattle.ledger_state.specs.declared.Ledger.{Ledger}
use Rattle.ledger_steps.specs.declared.Accepted.{Accepted}
use Rattle.std.specs.Prelude.{true, List, ℕ, ◌+◌, get_or, set, Result, Ok, Err}
use Rattle.std.proofs.lemmas.List.Edits.{sets}
use Rattle.call_types.specs.declared.Reply.{Reply}
use Rattle.chains.specs.declared.Ring.{Ring}
use Rattle.replies.specs.Served.{after_duplicate, after_unknown}
use Rattle.ledger_steps.specs.Accept.{AcceptOutcome, ledger_counted}
use Rattle.ledger_steps.specs.Calls.{AcceptResult, accept_number, accept_to}
use Rattle.host_calls.specs.Calls as host_calls
use Rattle.host_ledger.specs.Words.{ledger_at, tables_words}
use Rattle.host_ledger.specs.Left.{counted_words}
use Rattle.host_accept_words.specs.Served.{served_words}
use Rattle.host_ledger.specs.Places as place

-- the number returned, the words of the ledger, the four rooms and the answer's words
pub record AcceptLeft : Type 0 where
  pub number : ℕ
  pub ledger : List ℕ
  pub keys : List (List ℕ)
  pub slots : List (List ℕ)
  pub probes : List (List ℕ)
  pub links : List (List ℕ)
  pub answer : List ℕ

-- the record above, made of its parts in their order
abbrev pub accept_left : ℕ → List ℕ → List (List ℕ) → List (List ℕ) → List (List ℕ) → List (List ℕ) → List ℕ → AcceptLeft
accept_left number ledger keys slots probes links answer = record { number = number; ledger = ledger; keys = keys; slots = slots; probes = probes; links = links; answer = answer }

-- the words after an answer, and the answer's words: a refusal changes none
abbrev pub words_after : List ℕ → Result (Ledger × Accepted) ℕ → List ℕ
words_after w (Ok (next, x)) = served_words w next x
words_after w (Err n) = w

-- the six words of the answer: class, packet, ordinal and train where served, else as they were
abbrev pub answer_after : List ℕ → Result (Ledger × Accepted) ℕ → List ℕ
answer_after a (Ok (next, x)) = host_calls.accepted_words x
answer_after a (Err n) = a

-- what the library's result leaves of the ledger's words w and the answer's words a
abbrev pub accept_from : List ℕ → List ℕ → AcceptResult → AcceptLeft
accept_from w a r = accept_left (accept_number r.answer) (words_after w r.answer) r.keys r.slots r.probes r.links (answer_after a r.answer)

-- the whole call, without a monitor: no refusal of another part
unfoldable pub accept_of : List ℕ → List (List ℕ) → List (List ℕ) → List (List ℕ) → List (List ℕ) → List ℕ → Reply → AcceptLeft
accept_of w keys slots probes links a reply = accept_from w a (accept_to 0 (ledger_at w) keys slots probes links reply)

-- ---- its steps

-- a served call
abbrev pub served_leaves : List ℕ → AcceptOutcome → AcceptLeft
served_leaves w o = accept_left 0 (served_words w o.ledger o.accepted) o.keys o.slots o.probes o.links (host_calls.accepted_words o.accepted)

-- one call more, both rings, and that the key of a unique reply awaits its observation
unfoldable pub rings_stored : List ℕ → Ring → Ring → List ℕ
rings_stored w keys probes = sets (set w place.calls (get_or w place.calls 0 + 1)) place.keys_head (tables_words (record { keys = keys; probes = probes; awaits = true }))

-- the words after a duplicate: those that the library's ledger after it is stored as
unfoldable pub duplicate_words : List ℕ → List ℕ
duplicate_words w = counted_words w (ledger_counted (ledger_at w) (after_duplicate (ledger_at w).counts.replies))

-- the words after an unknown reply
unfoldable pub unknown_words : List ℕ → List ℕ
unknown_words w = counted_words w (ledger_counted (ledger_at w) (after_unknown (ledger_at w).counts.replies))
