-- The front of the monitor's queue after each record, in a room of one number a record. Whether the monitor transmits, and whether a sequence
-- is marked, follows from the records and the fronts. `moves i` is what record i is to the monitor. Assumes nothing.
use Rattle.std.specs.Prelude.{◌≡◌, Bool, true, false, not, ◌&&◌, ◌||◌, cond, List, ℕ, zero, suc, ◌-◌, ◌<◌, eqb, ltb, get_or, set}
use Rattle.recount_queue.specs.declared.Move.{Move}
use Rattle.recount_queue.specs.declared.Move.TheVariants.{Sends, Hears, Advances, Halts, Rests}
use Rattle.recount_queue.specs.Moves.{queued_at}
use Rattle.recount_queue.specs.Queue.{any_named, front_to, front_by}

-- the front before record j: 0 at first, and then what the record before it left
abbrev pub front_at : List ℕ → ℕ → ℕ
front_at fronts zero = 0
front_at fronts (suc j) = get_or fronts j 0

-- a probe starts transmitting, and an idle stops it
abbrev pub transmits_next : Move → Bool → Bool
transmits_next (Sends s) on = true
transmits_next (Hears q) on = on
transmits_next (Advances t) on = on
transmits_next Halts on = false
transmits_next Rests on = on

-- whether the monitor transmits after n records
unfoldable pub transmits_in : (ℕ → Move) → ℕ → Bool
transmits_in moves zero = false
transmits_in moves (suc n) = transmits_next (moves n) (transmits_in moves n)

-- a queued probe marks its sequence x, an idle unmarks all, and so does a front that passes a probe with it
abbrev pub marked_next : ℕ → Move → ℕ → (passed : Bool) → Bool → Bool
marked_next timeout (Sends s) x passed marked = (ltb 0 timeout && eqb s.sequence x) || marked
marked_next timeout (Hears q) x passed marked = not passed && marked
marked_next timeout (Advances t) x passed marked = not passed && marked
marked_next timeout Halts x passed marked = false
marked_next timeout Rests x passed marked = marked

module _ (timeout : ℕ) (moves : ℕ → Move) where
  -- whether record n moves the front past a probe with the sequence x
  abbrev pub passes : List ℕ → ℕ → ℕ → Bool
  passes fronts x n = any_named (queued_at timeout moves) x (front_at fronts n) (front_at fronts (suc n) - front_at fronts n)

  -- whether the sequence x is marked after n records
  unfoldable pub marked_in : List ℕ → ℕ → ℕ → Bool
  marked_in fronts x zero = false
  marked_in fronts x (suc n) = marked_next timeout (moves n) x (passes fronts x n) (marked_in fronts x n)

  -- a reply to the sequence q moves the front where the monitor transmits and q is marked
  abbrev pub reply_front : List ℕ → ℕ → ℕ → ℕ
  reply_front fronts q n = cond (transmits_in moves n && marked_in fronts q n) (front_to (queued_at timeout moves) q (front_at fronts n) n) (front_at fronts n)

  -- the front after record n
  abbrev pub front_next : Move → List ℕ → ℕ → ℕ
  front_next (Sends s) fronts n = front_at fronts n
  front_next (Hears q) fronts n = reply_front fronts q n
  front_next (Advances t) fronts n = front_by timeout (queued_at timeout moves) t (front_at fronts n) n
  front_next Halts fronts n = suc n
  front_next Rests fronts n = front_at fronts n

  -- the room, once the fronts of the first n records are in it
  unfoldable pub fronts_to : List ℕ → ℕ → List ℕ
  fronts_to fronts zero = fronts
  fronts_to fronts (suc n) = set (fronts_to fronts n) n (front_next (moves n) (fronts_to fronts n) n)

  -- they are in it
  abbrev pub Fronted : List ℕ → ℕ → Type 0
  Fronted fronts n = (j : ℕ) → j < n → get_or fronts j 0 ≡ front_next (moves j) fronts j
