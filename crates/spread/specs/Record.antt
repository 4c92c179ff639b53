-- `RttCollector::record`: what a call answers and leaves, for every state, room and value. Assumes nothing.
use Rattle.std.specs.Prelude.{ℕ, Bool, true, false, cond, List, Option, Some, None, Result, Ok, Err}
use Rattle.limits.specs.declared.Refusal.{Refusal}
use Rattle.limits.specs.Numbers.{number_of}
use Rattle.series.specs.Series.{recorded_beside}
use Rattle.spread.specs.declared.RttCollector.{RttCollector}
use Rattle.spread.specs.Spread.{fits, grown_of}

-- what a call leaves: the refusal's number, or 0; Rust's answer; the collector; the room
pub record Outcome : Type 0 where
  pub number : ℕ
  pub answer : Bool
  pub state : RttCollector
  pub room : List ℕ

-- the record above, made of its parts in their order
abbrev pub left : ℕ → Bool → RttCollector → List ℕ → Outcome
left n b s room = record { number = n; answer = b; state = s; room = room }

-- the number and values of each answer to a call at the collector s
unfoldable pub outcome : RttCollector → Result (Option RttCollector) Refusal → List ℕ → Outcome
outcome s (Err refusal) room = left (number_of refusal) false s room
outcome s (Ok None) room = left 0 false s room
outcome s (Ok (Some next)) room = left 0 true next room

-- what becomes of the quantiles and their room; where they took the sample, the sums have it too, and else nothing changes
unfoldable pub record_to : RttCollector → List ℕ → ℕ → Outcome
record_to s room v =
    let o = recorded_beside (fits s) s.quantiles room v in
    left o.number o.answer (cond o.answer (grown_of s o.state v) s) o.room
