-- Recording a list of values, one after the other. Assumes nothing.
use Rattle.std.specs.Prelude.{Bool, List, [], ◌∷◌, ℕ}
use Rattle.quantiles.specs.declared.Quantiles.{Quantiles}
use Rattle.quantiles.specs.Record.{recorded}

-- a state and a room
pub record Kept : Type 0 where
  pub state : Quantiles
  pub room : List ℕ

-- no samples yet
abbrev pub fresh : Bool → Quantiles
fresh s = record { signed = s; count = 0; min = 0; max = 0 }

-- the state and the room after each of the values was recorded, in order
unfoldable pub record_all : Quantiles → List ℕ → List ℕ → Kept
record_all q room [] = record { state = q; room = room }
record_all q room (v ∷ vs) = record_all (recorded q room v).state (recorded q room v).room vs
