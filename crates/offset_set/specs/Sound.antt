-- A set of seen offsets that calls have left. Assumes nothing.
use Rattle.std.specs.Prelude.{◌≡◌, ℕ, ◌≤◌, ◌<◌, length, get_or}
use Rattle.chains.specs.Links.{newest, older, Rows}
use Rattle.chains.specs.Whole.{Indexed}
use Rattle.offset_set.specs.Offsets.{OffsetSet, lane}

module _ (N : ℕ) (hash : ℕ → ℕ) where
  -- its rooms have their sizes, and every offset is on the chain of its hash
  pub record Sound (s : OffsetSet) : Type 0 where
    pub some : 0 < N
    pub hashes : (n : ℕ) → hash n < N
    pub offsets_fit : length s.offsets ≡ N
    pub links_fit : Rows N 8 s.links
    pub count_in : s.count ≤ N
    pub chained : Indexed N (λ slot. hash (get_or s.offsets slot 0)) (newest lane s.links) (older lane s.links) 0 s.count
