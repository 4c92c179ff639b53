-- The queue of document 01, "Monitor": probe records in a lent room, of which a ring says which are queued.
use Rattle.std.specs.Prelude.{Bool, true, false, not, List, [], ◌∷◌, ℕ, zero, suc, ◌+◌, ◌<◌, ◌≤◌, ◌%◌, ◌-◌, get_or, set, eqb, leb, ltb}
use Rattle.limits.specs.Limits.{capacity}
use Rattle.probe_queue.specs.declared.QueuedProbe.{QueuedProbe}
use Rattle.probe_queue.specs.declared.QueueRing.{QueueRing}
use Rattle.probe_queue.specs.declared.Rule.{Rule}
use Rattle.probe_queue.specs.declared.Rule.TheVariants.{Due, Below, Until, Unmarked}

-- one of two
abbrev pub choose : {X : Type 0} → Bool → X → X → X
choose true x y = x
choose false x y = y

-- the record that is read past the end of a room
abbrev pub nil : QueuedProbe
nil = record { sequence = 0; deadline = 0; mark = 0 }

-- a ring that a room of `capacity` records can hold
abbrev pub Held : QueueRing → Type 0
Held ring = (ring.head < capacity) × (ring.len ≤ capacity)

-- where the i-th queued record lies
abbrev pub place : QueueRing → ℕ → ℕ
place ring i = (ring.head + i) % capacity

-- the i-th queued record
abbrev pub at : List QueuedProbe → QueueRing → ℕ → QueuedProbe
at room ring i = get_or room (place ring i) nil

-- the list f 0, f 1, .. of n entries
abbrev pub tabulate : {X : Type 0} → ℕ → (ℕ → X) → List X
tabulate zero f = []
tabulate (suc n) f = f 0 ∷ tabulate n (λ i. f (suc i))

-- the queued records, from front to back
abbrev pub queued : List QueuedProbe → QueueRing → List QueuedProbe
queued room ring = tabulate ring.len (at room ring)

-- how many of the first entries pass a test, up to the first that does not
abbrev pub leading : {X : Type 0} → (X → Bool) → List X → ℕ
leading test [] = 0
leading test (x ∷ xs) = choose (test x) (suc (leading test xs)) 0

-- whether a record bears a mark: 0 is none, anything else is one
abbrev pub is_marked : QueuedProbe → Bool
is_marked p = not (eqb p.mark 0)

-- whether a record passes a rule: due by a time; of a sequence below one; of another sequence; not a marked record of a sequence
unfoldable pub passes : Rule → QueuedProbe → Bool
passes (Due now) p = leb p.deadline now
passes (Below s) p = ltb p.sequence s
passes (Until s) p = not (eqb p.sequence s)
passes (Unmarked s) p = choose (eqb p.sequence s) (not (is_marked p)) true

-- a record without its mark, where it is of the sequence
unfoldable pub unmark : ℕ → QueuedProbe → QueuedProbe
unmark s p = choose (eqb p.sequence s) (record { sequence = p.sequence; deadline = p.deadline; mark = 0 }) p

-- a place past the end of any room
abbrev pub past : ℕ
past = 18446744073709551615

-- where a record is stored once a sequence is unmarked: nowhere where it is of another one
unfoldable pub place_if : ℕ → QueuedProbe → ℕ → ℕ
place_if s p at = choose (eqb p.sequence s) at past

-- the room once a sequence is unmarked in the first n queued records
abbrev pub unmarked : List QueuedProbe → QueueRing → ℕ → ℕ → List QueuedProbe
unmarked room ring s zero = room
unmarked room ring s (suc n) = set (unmarked room ring s n) (place ring n) (unmark s (at (unmarked room ring s n) ring n))

-- the ring after n pops
abbrev pub after : QueueRing → ℕ → QueueRing
after ring n = record { head = (ring.head + n) % capacity; len = ring.len - n }

-- the room once the sequences of the first n of the records before `rest` are unmarked in what stays queued
abbrev pub popped : List QueuedProbe → QueueRing → QueueRing → ℕ → List QueuedProbe
popped room ring rest zero = room
popped room ring rest (suc n) = unmarked (popped room ring rest n) rest (at (popped room ring rest n) ring n).sequence rest.len
