-- What an answer of `record` leaves in the lent words. Assumes nothing.
use Rattle.std.specs.Prelude.{Bool, List, ℕ, get_or, set, Option, Some, None, Result, Ok, Err}
use Rattle.limits.specs.declared.Refusal.{Refusal}
use Rattle.limits.specs.Numbers.{number_of}
use Rattle.quantiles.specs.declared.Quantiles.{Quantiles}
use Rattle.host_quantiles.specs.Calls.{words_with}

-- a state of a kind, with the count, the least and the greatest value that four words say
abbrev pub state_of : List ℕ → Bool → Quantiles
state_of ws signed = record { signed = signed; count = get_or ws 1 0; min = get_or ws 2 0; max = get_or ws 3 0 }

-- the call's number, the four words, and the word of its answer
pub record Kept : Type 0 where
  pub number : ℕ
  pub words : List ℕ
  pub recorded : List ℕ

-- the record above, made of its parts in their order
abbrev pub kept : ℕ → List ℕ → List ℕ → Kept
kept n ws recorded = record { number = n; words = ws; recorded = recorded }

-- a refusal leaves nothing, Rust's false its 0, a counted sample its state and a 1
abbrev pub kept_by : Result (Option Quantiles) Refusal → List ℕ → List ℕ → Kept
kept_by (Err refusal) ws recorded = kept (number_of refusal) ws recorded
kept_by (Ok None) ws recorded = kept 0 ws (set recorded 0 0)
kept_by (Ok (Some next)) ws recorded = kept 0 (words_with ws next) (set recorded 0 1)
