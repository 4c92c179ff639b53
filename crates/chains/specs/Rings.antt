-- A ring in a lent room, of any capacity N: where its entries stand, what it holds, and where a push goes.
-- Assumes nothing.
use Rattle.std.specs.Prelude.{cond, List, [], ◌∷◌, ℕ, zero, suc, ◌+◌, ◌-◌, ◌≤◌, ◌<◌, ltb}
use Rattle.chains.specs.declared.Ring.{Ring}

-- a slot that was counted past the end of the room
unfoldable pub wrap : ℕ → ℕ → ℕ
wrap N i = cond (ltb i N) i (i - N)

-- the slot of a place, which counts from the oldest entry
abbrev pub slot_of : ℕ → ℕ → ℕ → ℕ
slot_of N head place = wrap N (head + place)

-- the n entries from the slot `head` on, the newest of them first
unfoldable pub contents : {A : Type 0} → ℕ → (ℕ → A) → ℕ → ℕ → List A
contents N at head zero = []
contents N at head (suc n) = at (wrap N (head + n)) ∷ contents N at head n

-- head and length of a ring of N entries
pub record RingFits (N : ℕ) (ring : Ring) : Type 0 where
  pub head_in : ring.head < N
  pub len_in : ring.len ≤ N

-- where a push goes: behind the newest entry, or over the oldest
unfoldable pub push_slot : ℕ → Ring → ℕ
push_slot N ring = cond (ltb ring.len N) (wrap N (ring.head + ring.len)) ring.head

-- the ring after a push
unfoldable pub after_push : ℕ → Ring → Ring
after_push N ring = cond (ltb ring.len N) (record { head = ring.head; len = ring.len + 1 }) (record { head = wrap N (ring.head + 1); len = ring.len })
