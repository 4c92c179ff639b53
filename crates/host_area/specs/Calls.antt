-- What each call answers and leaves in the lent words, by the definitions of the crates below. A refusal leaves them as they were.
-- Assumes nothing.
use Rattle.std.specs.Prelude.{List, ℕ, set, Result, Ok, Err}
use Rattle.limits.specs.declared.Refusal.{Refusal}
use Rattle.limits.specs.Numbers.{number_of}
use Rattle.big_endian.specs.Fields.{Field}
use Rattle.call_types.specs.declared.CounterPoint.{CounterPoint}
use Rattle.area_read.specs.Read as read_call
use Rattle.area_write.specs.Write as write-call
use Rattle.area_fields.specs.declared.FollowUpItem.{FollowUpItem}
use Rattle.area_fields.specs.Fields.{counters_of, follow_up_of, wrote_fields}
use Rattle.area_observation.specs.declared.Told.{Told}
use Rattle.area_observation.specs.Told.{told}
use Rattle.host_area.specs.Words.{told_words}

-- what a call leaves: its number, the room, and the word of how much there is
pub record RoomLeft : Type 0 where
  pub number : ℕ
  pub room : List ℕ
  pub count : List ℕ

-- what such a call leaves, made of its number, the room and the word of how much there is
abbrev pub room_left : ℕ → List ℕ → List ℕ → RoomLeft
room_left n room count = record { number = n; room = room; count = count }

-- the items' words and their count; a refusal changes nothing
abbrev pub read_by : Result ℕ Refusal → (room count : List ℕ) → RoomLeft
read_by (Err e) room count = room_left (number_of e) room count
read_by (Ok k) room count = room_left 0 room (set count 0 k)

-- `ambrulicciu_area_read`
unfoldable pub read_to : (bytes items count : List ℕ) → RoomLeft
read_to bytes items count = let o = read_call.read_into bytes items in read_by o.answer o.room count

-- the bytes of the area and how many; a refusal changes nothing
abbrev pub write_by : Result ℕ Refusal → (room length : List ℕ) → RoomLeft
write_by (Err e) room length = room_left (number_of e) room length
write_by (Ok k) room length = room_left 0 room (set length 0 k)

-- `ambrulicciu_area_write`
unfoldable pub write_to : (items values bytes length : List ℕ) → RoomLeft
write_to items values bytes length = let o = write-call.write_into items values bytes in write_by o.answer o.room length

-- what a call leaves: its number, and the lent words
pub record WordsLeft : Type 0 where
  pub number : ℕ
  pub words : List ℕ

-- of this number and these words
abbrev pub words_left : ℕ → List ℕ → WordsLeft
words_left n words = record { number = n; words = words }

-- S_TxC, R_RxC, R_TxC; a refusal changes nothing
abbrev pub counters_by : Result CounterPoint Refusal → List ℕ → WordsLeft
counters_by (Err e) words = words_left (number_of e) words
counters_by (Ok p) words = words_left 0 (set (set (set words 0 p.sender.0) 1 p.received.0) 2 p.transmitted.0)

-- `ambrulicciu_counters_read`
unfoldable pub counters_to : (value words : List ℕ) → WordsLeft
counters_to value words = counters_by (counters_of value) words

-- sequence, timestamp, mode; a refusal changes nothing
abbrev pub follow_up_by : Result FollowUpItem Refusal → List ℕ → WordsLeft
follow_up_by (Err e) words = words_left (number_of e) words
follow_up_by (Ok f) words = words_left 0 (set (set (set words 0 f.sequence) 1 f.timestamp) 2 f.mode)

-- `ambrulicciu_follow_up_read`
unfoldable pub follow_up_to : (value words : List ℕ) → WordsLeft
follow_up_to value words = follow_up_by (follow_up_of value) words

-- what `observe` is told of an area; a refusal changes nothing
abbrev pub observation_by : Result Told Refusal → List ℕ → WordsLeft
observation_by (Err e) words = words_left (number_of e) words
observation_by (Ok t) words = words_left 0 (told_words t words)

-- `ambrulicciu_area_observation`
unfoldable pub observation_to : (bytes words : List ℕ) → WordsLeft
observation_to bytes words = observation_by (told bytes) words

-- the number of an answer with nothing else to it: 0 where it was served
abbrev pub number_of_answer : Result (Unit {0}) Refusal → ℕ
number_of_answer (Err e) = number_of e
number_of_answer (Ok _) = 0

-- what a call that writes fields leaves: its number, and the lent bytes
pub record BytesLeft : Type 0 where
  pub number : ℕ
  pub bytes : List ℕ

-- of this number and these bytes
abbrev pub bytes_left : ℕ → List ℕ → BytesLeft
bytes_left n bytes = record { number = n; bytes = bytes }

-- `ambrulicciu_counters_write` and `ambrulicciu_follow_up_write`: the fields at the start of the bytes; a refusal changes nothing
unfoldable pub fields_to : (needed : ℕ) → List Field → List ℕ → BytesLeft
fields_to needed fields bytes = let o = wrote_fields needed fields bytes in bytes_left (number_of_answer o.answer) o.bytes

-- the counters that a host hands over
abbrev pub point_from : (sender received transmitted : ℕ) → CounterPoint
point_from s r t = record { sender = record { 0 = s }; received = record { 0 = r }; transmitted = record { 0 = t } }

-- the follow-up that a host hands over
abbrev pub item_from : (sequence timestamp mode : ℕ) → FollowUpItem
item_from s t m = record { sequence = s; timestamp = t; mode = m }
