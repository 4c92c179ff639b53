-- The accepted keys with their rows and chains in lent rooms: what each function does, on any contents. Any capacity N, any hashes.
-- Lane 0 of the links chains the keys by the whole key, lane 2 by the reflector number.
-- Assumes nothing.
use Rattle.std.specs.Prelude.{Bool, ◌&&◌, cond, List, [], ◌∷◌, ℕ, ◌+◌, ◌-◌, ltb, get_or, set}
use Rattle.call_types.specs.declared.ReplyKey.{ReplyKey}
use Rattle.limits.specs.Limits.{capacity}
use Rattle.chains.specs.declared.Ring.{Ring}
use Rattle.chains.specs.Rings.{wrap, contents, push_slot, after_push, RingFits}
use Rattle.chains.specs.Links.{newest, older, linked, ended, Rows}
use Rattle.chains.specs.Walk.{walk}
use Rattle.chains.specs.Whole.{Indexed}
use Rattle.chains.specs.Hash.{key_hash, number_hash}
use Rattle.key_ring.specs.Keys.{key_at, key_row, numbers_of, same_key}
use Rattle.key_ring.specs.Rows.{no_slot, lowered, Row, holds?}

-- the three rooms and the ring
pub record Table : Type 0 where
  pub keys : List (List ℕ)
  pub slots : List (List ℕ)
  pub links : List (List ℕ)
  pub ring : Ring

-- these rooms and this ring
abbrev pub table_of : List (List ℕ) → List (List ℕ) → List (List ℕ) → Ring → Table
table_of keys slots links ring = record { keys = keys; slots = slots; links = links; ring = ring }

-- the reflector number and the words of a slot
abbrev pub row_at : List (List ℕ) → List (List ℕ) → ℕ → Row
row_at keys slots p = record { number = (key_at keys p).reflector; words = get_or slots p [] }

-- the words of a slot; none for what is no slot
abbrev pub words_at : ℕ → List (List ℕ) → ℕ → List ℕ
words_at N slots p = cond (ltb p N) (get_or slots p []) no_slot

-- the rooms' words after a store; none for what is no slot
abbrev pub stored_at : ℕ → List (List ℕ) → ℕ → List ℕ → List (List ℕ)
stored_at N slots p words = cond (ltb p N) (set slots p words) slots

-- the slot of the newest key; of an empty ring the head
abbrev pub newest_slot : ℕ → Ring → ℕ
newest_slot N ring = wrap N (ring.head + (ring.len - 1))

-- the newest key is this one
abbrev pub newest_is : ℕ → List (List ℕ) → Ring → ReplyKey → Bool
newest_is N keys ring k = ltb 0 ring.len && same_key k (key_at keys (newest_slot N ring))

module _ (N : ℕ) where
  -- the keys, newest first
  unfoldable pub keys_of : Table → List ReplyKey
  keys_of t = contents N (key_at t.keys) t.ring.head t.ring.len

  -- their rows, newest first
  unfoldable pub rows_of : Table → List Row
  rows_of t = contents N (row_at t.keys t.slots) t.ring.head t.ring.len

module _ (N : ℕ) (key_by : ReplyKey → ℕ) (number_by : ℕ → ℕ) where
  -- the slot of a key, found through its chain; N where there is none
  unfoldable pub find_in : List (List ℕ) → List (List ℕ) → Ring → ReplyKey → ℕ
  find_in keys links ring k = walk N (λ p. same_key k (key_at keys p)) (older 0 links) ring.head ring.len (newest 0 links (key_by k))

  -- the slot of the newest observed key of a reflector number; N where there is none
  unfoldable pub holder_in : List (List ℕ) → List (List ℕ) → List (List ℕ) → Ring → ℕ → ℕ
  holder_in keys slots links ring r = walk N (λ p. holds? r (row_at keys slots p)) (older 2 links) ring.head ring.len (newest 2 links (number_by r))

  -- the words after f at the holder of r
  abbrev pub change_at : (List ℕ → List ℕ) → List (List ℕ) → ℕ → List (List ℕ)
  change_at f slots p = stored_at N slots p (f (get_or slots p []))

  -- the oldest key goes where the ring is full: the slot of its reflector number falls by one
  unfoldable pub evicted_slots : List (List ℕ) → List (List ℕ) → List (List ℕ) → Ring → List (List ℕ)
  evicted_slots keys slots links ring =
      cond (ltb ring.len N) slots (change_at lowered slots (holder_in keys slots links ring (key_at keys ring.head).reflector))

  -- the links after the oldest key, in slot p, left: a chain that it was the last of leads to no slot
  abbrev pub ended_key : List (List ℕ) → ReplyKey → ℕ → List (List ℕ)
  ended_key links k p = ended N 2 (ended N 0 links (key_by k) p) (number_by k.reflector) p

  -- the oldest key goes where the ring is full: it leaves its two chains
  unfoldable pub evicted_links : List (List ℕ) → List (List ℕ) → Ring → List (List ℕ)
  evicted_links keys links ring = cond (ltb ring.len N) links (ended_key links (key_at keys ring.head) ring.head)

  -- the links after a push into slot p
  abbrev pub linked_key : List (List ℕ) → ReplyKey → ℕ → List (List ℕ)
  linked_key links k p = linked 2 (linked 0 links (key_by k) p) (number_by k.reflector) p

  -- the key as the newest, not observed, over the oldest where the ring is full
  unfoldable pub pushed_key : Table → ReplyKey → Table
  pushed_key t k = table_of
      (set t.keys (push_slot N t.ring) (key_row k))
      (set t.slots (push_slot N t.ring) no_slot)
      (linked_key t.links k (push_slot N t.ring))
      (after_push N t.ring)

  -- the rooms without the oldest key of a full ring, whose slot the push takes
  abbrev pub evicted_key : Table → Table
  evicted_key t = table_of t.keys (evicted_slots t.keys t.slots t.links t.ring) (evicted_links t.keys t.links t.ring) t.ring

  -- what an accepted key does: the oldest goes where the ring is full, and the key is the newest
  unfoldable pub accepted_key : Table → ReplyKey → Table
  accepted_key t k = pushed_key (evicted_key t) k

  -- these keys, accepted one after the other, the last of the list first
  unfoldable pub accepted_all : Table → List ReplyKey → Table
  accepted_all t [] = t
  accepted_all t (k ∷ ks) = accepted_key (accepted_all t ks) k

  -- The rooms fit, and both chains are whole.
  pub record Sound (t : Table) : Type 0 where
    pub ring_fits : RingFits N t.ring
    pub keys_fit : Rows N 2 t.keys
    pub slots_fit : Rows N 3 t.slots
    pub links_fit : Rows N 8 t.links
    pub by_key : Indexed N (λ p. key_by (key_at t.keys p)) (newest 0 t.links) (older 0 t.links) t.ring.head t.ring.len
    pub by_number : Indexed N (λ p. number_by (key_at t.keys p).reflector) (newest 2 t.links) (older 2 t.links) t.ring.head t.ring.len

-- ---- at 4,096, with the hashes of the code

-- the hash of a key, with the secret words
abbrev pub hash_of : List ℕ → ReplyKey → ℕ
hash_of secret k = key_hash secret (numbers_of k) k.t3

-- what `find` answers
abbrev pub find : List ℕ → List (List ℕ) → List (List ℕ) → Ring → ReplyKey → ℕ
find secret = find_in capacity (hash_of secret) (number_hash secret)

-- what `holder` answers
abbrev pub holder : List ℕ → List (List ℕ) → List (List ℕ) → List (List ℕ) → Ring → ℕ → ℕ
holder secret = holder_in capacity (hash_of secret) (number_hash secret)

-- the words that `evict` leaves
abbrev pub evicted : List ℕ → List (List ℕ) → List (List ℕ) → List (List ℕ) → Ring → List (List ℕ)
evicted secret = evicted_slots capacity (hash_of secret) (number_hash secret)

-- the links once the oldest key of a full ring left its chains
abbrev pub unlinked : List ℕ → List (List ℕ) → List (List ℕ) → Ring → List (List ℕ)
unlinked secret = evicted_links capacity (hash_of secret) (number_hash secret)

-- what `push` leaves
abbrev pub pushed : List ℕ → Table → ReplyKey → Table
pushed secret = pushed_key capacity (hash_of secret) (number_hash secret)

-- what `accept_key` leaves
abbrev pub accepted : List ℕ → Table → ReplyKey → Table
accepted secret = accepted_key capacity (hash_of secret) (number_hash secret)
