-- Both directions, whose rooms lie in one lent slice: the reverse part begins where the forward part ends. Assumes nothing.
use Rattle.std.specs.Prelude.{◌≡◌, Bool, true, false, cond, List, ◌++◌, ℕ, ◌+◌, ltb, length, take, drop, Option, Some, None, Result, Ok, Err}
use Rattle.limits.specs.declared.Refusal.{Refusal}
use Rattle.limits.specs.Numbers.{number_of}
use Rattle.limits.specs.Refusals.{wrong_room}
use Rattle.quantile_room.specs.Room.{room_size}
use Rattle.directions.specs.declared.OwdDirection.{OwdDirection}
use Rattle.directions.specs.declared.Directions.{Directions}
use Rattle.directions.specs.Direction as direction

-- how many words a part has: those of a signed room
abbrev pub part_size : ℕ
part_size = room_size true

-- where a direction's part begins
abbrev pub start_of : Bool → ℕ
start_of false = 0
start_of true = part_size

-- the part that begins there
abbrev pub part_at : ℕ → List ℕ → List ℕ
part_at start slice = take part_size (drop start slice)

-- the slice with that part replaced
abbrev pub put_at : ℕ → List ℕ → List ℕ → List ℕ
put_at start slice part = take start slice ++ (part ++ drop part_size (drop start slice))

-- every word before the part and every word behind it is as it was
pub record Untouched (start : ℕ) (slice after : List ℕ) : Type 0 where
  pub size : length after ≡ length slice
  pub before : take start after ≡ take start slice
  pub behind : drop (start + part_size) after ≡ drop (start + part_size) slice

-- `record` of a direction, in the part of the slice that begins at start
unfoldable pub record_part : OwdDirection → List ℕ → ℕ → ℕ → direction.Outcome
record_part d slice start v =
    let o = direction.record_to d (part_at start slice) v in direction.left o.number o.answer o.state (put_at start slice o.room)

-- 5 for a slice shorter than both parts; then as `record` of the direction answers, in its part; what lies behind both is not looked at
unfoldable pub record_own : OwdDirection → List ℕ → Bool → ℕ → direction.Outcome
record_own d slice reverse v = cond (ltb (length slice) (part_size + part_size)) (direction.left wrong_room false d slice) (record_part d slice (start_of reverse) v)

-- the direction that a sample belongs to
abbrev pub own : Directions → Bool → OwdDirection
own ds false = ds.forward
own ds true = ds.reverse

-- both, with another state of that direction
abbrev pub with_own : Directions → Bool → OwdDirection → Directions
with_own ds false d = record { forward = d; reverse = ds.reverse }
with_own ds true d = record { forward = ds.forward; reverse = d }

-- no samples yet, in either
abbrev pub fresh_both : Directions
fresh_both = record { forward = direction.fresh; reverse = direction.fresh }

-- what a call leaves: the refusal's number, or 0; Rust's answer; both directions; the slice
pub record Outcome : Type 0 where
  pub number : ℕ
  pub answer : Bool
  pub state : Directions
  pub slice : List ℕ

-- the record above, made of its parts in their order
abbrev pub left : ℕ → Bool → Directions → List ℕ → Outcome
left n b ds slice = record { number = n; answer = b; state = ds; slice = slice }

-- the number and values of each answer to a call at both directions
unfoldable pub outcome_both : Directions → Result (Option Directions) Refusal → List ℕ → Outcome
outcome_both ds (Err refusal) slice = left (number_of refusal) false ds slice
outcome_both ds (Ok None) slice = left 0 false ds slice
outcome_both ds (Ok (Some next)) slice = left 0 true next slice

-- what a sample of a direction leaves of both, by what it leaves of its own
abbrev pub in_both : Directions → Bool → direction.Outcome → Outcome
in_both ds reverse o = left o.number o.answer (with_own ds reverse o.state) o.room

-- the one outcome or the other, by a test
abbrev pub pick_outcome : Bool → Outcome → Outcome → Outcome
pick_outcome true a b = a
pick_outcome false a b = b

-- 5 for a slice shorter than both parts; then as `record` of the direction answers, in its part; what lies behind both is not looked at
unfoldable pub record_in : Directions → List ℕ → Bool → ℕ → Outcome
record_in ds slice reverse v =
    pick_outcome (ltb (length slice) (part_size + part_size)) (left wrong_room false ds slice) (in_both ds reverse (record_part (own ds reverse) slice (start_of reverse) v))
