-- What `observe` returns and leaves in the words and rooms of a host, on every input. A refusal leaves all of them as they were.
-- Assumes nothing.
use Rattle.ledger_state.specs.declared.Ledger.{Ledger}
use Rattle.call_types.specs.declared.CounterPoint.{CounterPoint}
use Rattle.std.specs.Prelude.{List, ℕ, Option, Result, Ok, Err}
use Rattle.ledger_steps.specs.Observe.{FollowOutcome, ObserveOutcome}
use Rattle.ledger_steps.specs.Calls.{ObserveResult, number, observe_to}
use Rattle.host_observation.specs.Observation.{observation_at}
use Rattle.host_ledger.specs.Words.{ledger_at}
use Rattle.host_ledger.specs.Left.{follow_stored, observed_words}

-- ---- the call

-- the number returned, the words of the ledger, and the three rooms that observe may change
pub record Left : Type 0 where
  pub number : ℕ
  pub ledger : List ℕ
  pub slots : List (List ℕ)
  pub offsets : List ℕ
  pub links : List (List ℕ)

-- the record above, made of its parts in their order
abbrev pub left : ℕ → List ℕ → List (List ℕ) → List ℕ → List (List ℕ) → Left
left number ledger slots offsets links = record { number = number; ledger = ledger; slots = slots; offsets = offsets; links = links }

-- the words after a call that was told these counters, or none: those of the next ledger, or as they were
abbrev pub ledger_after : Result Ledger ℕ → Option CounterPoint → List ℕ → List ℕ
ledger_after (Ok next) told before = observed_words told before next
ledger_after (Err n) told before = before

-- what the library's result leaves of these words
abbrev pub left_by : ObserveResult → Option CounterPoint → List ℕ → Left
left_by r told before = left (number r.answer) (ledger_after r.answer told before) r.slots r.offsets r.links

-- of the words of the ledger, four rooms, and the words of the observation
unfoldable pub observe_leaves :
    List ℕ → (keys slots : List (List ℕ)) → List ℕ → List (List ℕ) → List ℕ → Left
observe_leaves ledger keys slots offsets links observation =
    left_by (observe_to (ledger_at ledger) keys slots offsets links (observation_at observation)) (observation_at observation).counters ledger

-- ---- its steps

-- a served call
abbrev pub served_leaves : Option CounterPoint → List ℕ → ObserveOutcome → Left
served_leaves told before out = left 0 (observed_words told before out.ledger) out.slots out.offsets out.links

-- the words of the ledger, and the rows of words
pub record FollowLeft : Type 0 where
  pub ledger : List ℕ
  pub slots : List (List ℕ)

-- the record above, made of its parts in their order
abbrev pub follow_left : List ℕ → List (List ℕ) → FollowLeft
follow_left ledger slots = record { ledger = ledger; slots = slots }

-- the follow-up
abbrev pub follow_leaves : List ℕ → FollowOutcome → FollowLeft
follow_leaves before out = follow_left (follow_stored before out.follow) out.slots
