-- The refusal numbers of document 01, in the order of its table. Of several that hold, the first is answered.
use Rattle.std.specs.Prelude.{ℕ}

-- a room of the wrong size, or a state whose rings, minimum, maximum or buckets no call leaves
abbrev pub wrong_room : ℕ
wrong_room = 5

-- a scale, a time, a reference or an offset outside its range
abbrev pub out_of_range : ℕ
out_of_range = 1

-- a send time whose deadline would pass u64
abbrev pub deadline_passes : ℕ
deadline_passes = 6

-- calls, a count or a sum at its bound
abbrev pub counts_full : ℕ
counts_full = 4

-- an observation of a key that is not awaiting one
abbrev pub not_awaiting : ℕ
not_awaiting = 2

-- a probe for which the monitor's queue has no room
abbrev pub queue_full : ℕ
queue_full = 3
