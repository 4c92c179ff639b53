-- What the direct counters of a reply leave in the words of a ledger and in the rooms of the seen offsets. Assumes nothing.
use Rattle.call_types.specs.declared.CounterPoint.{CounterPoint}
use Rattle.std.specs.Prelude.{List, ℕ, Option}
use Rattle.std.proofs.lemmas.List.Edits.{sets}
use Rattle.ledger_steps.specs.Observe.{DirectOutcome}
use Rattle.host_ledger.specs.Parts.{direct_words}
use Rattle.host_ledger.specs.Left.{direct_stored}
use Rattle.host_ledger.specs.Places as place

-- the words of the ledger, the seen offsets and the links
pub record DirectLeft : Type 0 where
  pub ledger : List ℕ
  pub offsets : List ℕ
  pub links : List (List ℕ)

-- the record above, made of its parts in their order
abbrev pub direct_left : List ℕ → List ℕ → List (List ℕ) → DirectLeft
direct_left ledger offsets links = record { ledger = ledger; offsets = offsets; links = links }

-- the direct counters, or none
abbrev pub direct_leaves : Option CounterPoint → List ℕ → DirectOutcome → DirectLeft
direct_leaves told before out = direct_left (direct_stored told before out.direct) out.offsets out.links

-- counters that were told
abbrev pub told_leaves : List ℕ → DirectOutcome → DirectLeft
told_leaves before out = direct_left (sets before place.direct (direct_words out.direct)) out.offsets out.links
