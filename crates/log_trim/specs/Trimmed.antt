-- What trimming a log answers and leaves in the lent bytes (document 02, Q-11), from the definitions of log_cut. Assumes nothing.
use Rattle.std.specs.Prelude.{cond, List, ◌++◌, ℕ, ◌+◌, ltb, length, drop, Result, Ok, Err}
use Rattle.limits.specs.declared.Refusal.{Refusal}
use Rattle.limits.specs.declared.Refusal.TheVariants as refusal
use Rattle.log_whole.specs.Logs.{most_bytes}
use Rattle.log_cut.specs.Cut.{kept_of, stop_of, dropped_of, output_of}
use Rattle.log_trim.specs.declared.Cut.{Cut}

-- what a call leaves: its answer, and the lent bytes
pub record Left : Type 0 where
  pub answer : Result Cut Refusal
  pub room : List ℕ

-- the record above, made of its parts in their order
abbrev pub left : Result Cut Refusal → List ℕ → Left
left a bs = record { answer = a; room = bs }

-- "It says how many records were kept, at which byte it stopped and how many bytes were dropped."
abbrev pub cut_of : List ℕ → Cut
cut_of bs = record { kept = kept_of bs; stop = stop_of bs; dropped = dropped_of bs }

-- "Refusals: 9 as before; then 12 when the output room is short", and else what was kept
unfoldable pub answer_of : (bs room : List ℕ) → Result Cut Refusal
answer_of bs room = cond (ltb most_bytes (length bs)) (Err refusal.TooLong) (cond (ltb (length room) (stop_of bs + 24)) (Err refusal.ShortRoom) (Ok (cut_of bs)))

-- where it is served the log over the start of the lent bytes, and those behind it as they were; a refusal writes nothing
abbrev pub room_after : Result Cut Refusal → (output room : List ℕ) → List ℕ
room_after (Ok c) output room = output ++ drop (length output) room
room_after (Err r) output room = room

-- the call, of the bytes, the operator's three settings and what the room held
unfoldable pub trim_to : List ℕ → (copies threshold timeout : ℕ) → List ℕ → Left
trim_to bs copies threshold timeout room =
    left (answer_of bs room) (room_after (answer_of bs room) (output_of bs copies threshold timeout) room)
