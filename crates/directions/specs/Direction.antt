-- `OwdDirection::record`: what a call answers and leaves, for every state, room and value. A value is the two's complement word of an i64.
-- Assumes nothing.
use Rattle.std.specs.Prelude.{Bool, true, false, cond, List, ℕ, pos, ◌+ℤ◌, Option, Some, None, Result, Ok, Err}
use Rattle.std.specs.Int.{w64}
use Rattle.std.proofs.Common.{to_z}
use Rattle.limits.specs.declared.Refusal.{Refusal}
use Rattle.limits.specs.Numbers.{number_of}
use Rattle.delays.specs.Sums.{total_of, sum_of}
use Rattle.quantiles.specs.declared.Quantiles.{Quantiles}
use Rattle.series.specs.Series.{sum_fits, recorded_beside}
use Rattle.directions.specs.declared.OwdDirection.{OwdDirection}

-- no samples yet
abbrev pub fresh : OwdDirection
fresh = record { quantiles = record { signed = true; count = 0; min = 0; max = 0 }; sum = sum_of (pos 0) }

-- what a sample leaves that the quantiles took, with their state after it
abbrev pub grown_of : OwdDirection → Quantiles → ℕ → OwdDirection
grown_of d next v = record { quantiles = next; sum = sum_of (total_of d.sum +ℤ to_z w64 v) }

-- what a call leaves: the refusal's number, or 0; Rust's answer; the direction; the room
pub record Outcome : Type 0 where
  pub number : ℕ
  pub answer : Bool
  pub state : OwdDirection
  pub room : List ℕ

-- the record above, made of its parts in their order
abbrev pub left : ℕ → Bool → OwdDirection → List ℕ → Outcome
left n b d room = record { number = n; answer = b; state = d; room = room }

-- the number and values of each answer to a call at the direction d
unfoldable pub outcome : OwdDirection → Result (Option OwdDirection) Refusal → List ℕ → Outcome
outcome d (Err refusal) room = left (number_of refusal) false d room
outcome d (Ok None) room = left 0 false d room
outcome d (Ok (Some next)) room = left 0 true next room

-- what becomes of the quantiles and their room; where they took the sample, the sum has it too, and else nothing changes
unfoldable pub record_to : OwdDirection → List ℕ → ℕ → Outcome
record_to d room v =
    let o = recorded_beside (sum_fits d.sum) d.quantiles room v in
    left o.number o.answer (cond o.answer (grown_of d o.state v) d) o.room
