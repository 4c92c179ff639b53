-- Rooms of held probes that calls have left. Assumes nothing.
use Rattle.std.specs.Prelude.{◌≡◌, [], ℕ, ◌<◌, length, get_or}
use Rattle.chains.specs.Rings.{RingFits}
use Rattle.chains.specs.Links.{newest, older, Rows}
use Rattle.chains.specs.Whole.{Indexed}
use Rattle.probe_ring.specs.Row.{sequence_of}
use Rattle.probe_ring.specs.Held.{Distinct}
use Rattle.probe_ring.specs.Rooms.{Rooms, lane, held}

module _ (N : ℕ) (hash : ℕ → ℕ) where
  -- they have their sizes, every held probe is on the chain of its hash, and no sequence is held twice
  pub record Sound (r : Rooms) : Type 0 where
    pub hashes : (s : ℕ) → hash s < N
    pub rows_fit : length r.rows ≡ N
    pub links_fit : Rows N 8 r.links
    pub ring_fits : RingFits N r.ring
    pub chained : Indexed N (λ slot. hash (sequence_of (get_or r.rows slot []))) (newest lane r.links) (older lane r.links) r.ring.head r.ring.len
    pub distinct : Distinct (held N r)
