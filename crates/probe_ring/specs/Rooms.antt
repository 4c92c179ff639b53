-- The held probes in their two lent rooms, on any contents: how one is found, remembered, read and written back.
-- N is how many are held at most, and `hash` says which chain is walked: it decides nothing.
-- Assumes nothing.
use Rattle.std.specs.Prelude.{◌&&◌, cond, List, [], map, ℕ, zero, suc, ◌+◌, ◌-◌, ◌%◌, eqb, ltb, leb, get_or, set}
use Rattle.chains.specs.declared.Ring.{Ring}
use Rattle.chains.specs.Rings.{wrap, contents, push_slot, after_push}
use Rattle.chains.specs.Walk.{walk, place_of}
use Rattle.chains.specs.Links.{set_word, newest, older, linked}
use Rattle.probe_ring.specs.declared.HeldProbe.{HeldProbe}
use Rattle.probe_ring.specs.declared.Remembered.{Remembered}
use Rattle.probe_ring.specs.Row.{sequence_of, replies_of, words_of, held_probe_of}

-- the rows of the probes, the links of their chains, and which of the rows are held
pub record Rooms : Type 0 where
  pub rows : List (List ℕ)
  pub links : List (List ℕ)
  pub ring : Ring

-- the rooms, made of the rows, the links and the ring
abbrev pub rooms : List (List ℕ) → List (List ℕ) → Ring → Rooms
rooms rows links ring = record { rows = rows; links = links; ring = ring }

-- the lane of the links that is the probes' own
abbrev pub lane : ℕ
lane = 4

-- ---- taking a probe out of the middle

-- A link after the probe at place `gone`, whose own link is `own`, was taken out: one to a higher place goes one slot down, one to the probe
-- itself becomes that probe's own link, one to a lower place stays. `lift` is N less the head: the link's place is a sum modulo N.
unfoldable pub mended_link : ℕ → ℕ → ℕ → ℕ → ℕ → ℕ
mended_link N lift gone own link =
    cond (ltb gone ((link % N + lift) % N)) ((link % N + (N - 1)) % N) (cond (eqb gone ((link % N + lift) % N)) own link)

-- each of m slots, from `slot` on, takes what stands in the next one, by `move to from`
unfoldable pub moved : {R : Type 0} → ℕ → (ℕ → ℕ → R → R) → ℕ → ℕ → R → R
moved N move slot zero room = room
moved N move slot (suc m) room = moved N move (wrap N (suc slot)) m (move slot (wrap N (suc slot)) room)

-- a row takes another's place
abbrev pub move_row : ℕ → ℕ → List (List ℕ) → List (List ℕ)
move_row to from rows = set rows to (get_or rows from [])

-- a link to the next older one moves with its row, mended
abbrev pub move_link : (ℕ → ℕ) → ℕ → ℕ → List (List ℕ) → List (List ℕ)
move_link mend to from links = set_word links to (lane + 1) (mend (older lane links from))

-- one row's link to the newest of its hash, mended; its other words stay
abbrev pub mend_row : (ℕ → ℕ) → List ℕ → List ℕ
mend_row mend row = set row lane (mend (get_or row lane 0))

-- the links to the newest of each hash, mended
unfoldable pub mend_newest : (ℕ → ℕ) → List (List ℕ) → List (List ℕ)
mend_newest mend links = map (mend_row mend) links

module _ (N : ℕ) where
  -- the `above` probes above a slot move down by one place, and every link follows
  unfoldable pub closed_up : (ℕ → ℕ) → Rooms → ℕ → ℕ → Rooms
  closed_up mend r slot above =
      rooms (moved N move_row slot above r.rows) (moved N (move_link mend) slot above (mend_newest mend r.links))
      (record { head = r.ring.head; len = r.ring.len - 1 })

  -- the probe in a slot is taken out
  unfoldable pub taken_out : Rooms → ℕ → Rooms
  taken_out r slot =
      closed_up (mended_link N (N - r.ring.head) (place_of N r.ring.head slot) (older lane r.links slot)) r slot
      (r.ring.len - 1 - place_of N r.ring.head slot)

-- ---- what the calls leave

-- the two rooms, and the answer
pub record Outcome : Type 0 where
  pub rows : List (List ℕ)
  pub links : List (List ℕ)
  pub answer : Remembered

-- what a call leaves, made of the two rooms and the answer
abbrev pub outcome : List (List ℕ) → List (List ℕ) → Remembered → Outcome
outcome rows links answer = record { rows = rows; links = links; answer = answer }

-- the rooms with the ring that the answer gives
abbrev pub rooms_after : Outcome → Rooms
rooms_after o = rooms o.rows o.links o.answer.ring

module _ (N : ℕ) (hash : ℕ → ℕ) where
  -- the slot of the probe of a sequence, found through the chain of its hash; N where there is none
  unfoldable pub slot_of : Rooms → ℕ → ℕ
  slot_of r s =
      walk N (λ slot. eqb s (sequence_of (get_or r.rows slot []))) (older lane r.links) r.ring.head r.ring.len
      (newest lane r.links (hash s))

  -- a probe as the newest; where N are held, the oldest goes, lost where it has no reply
  unfoldable pub pushed : Rooms → HeldProbe → Outcome
  pushed r p =
      outcome (set r.rows (push_slot N r.ring) (words_of p)) (linked lane r.links (hash p.sequence) (push_slot N r.ring))
      (record {
        ring = after_push N r.ring;
        slot = push_slot N r.ring;
        evicted = leb N r.ring.len;
        lost = leb N r.ring.len && eqb (replies_of (get_or r.rows (push_slot N r.ring) [])) 0;
      })

  -- a held one is taken out first, and nothing is evicted for it
  unfoldable pub remembered_at : Rooms → HeldProbe → ℕ → Outcome
  remembered_at r p slot = cond (ltb slot N) (pushed (taken_out N r slot) p) (pushed r p)

  -- a probe is the newest from now on, whether its sequence was held or not
  unfoldable pub remembered : Rooms → HeldProbe → Outcome
  remembered r p = remembered_at r p (slot_of r p.sequence)

-- the held probes, newest first
unfoldable pub held : ℕ → Rooms → List HeldProbe
held N r = contents N (λ slot. held_probe_of (get_or r.rows slot [])) r.ring.head r.ring.len
