-- A search that is ended at a key, and one that is parted at it. Assumes nothing.
use Rattle.std.specs.Prelude.{◌≡◌, ◌⊎◌, ℕ, ◌+◌, ◌-◌, ◌^◌, ◌≤◌, ◌<◌}
use Rattle.sample_place.specs.declared.Search.{Search}

-- t is s ended at a key
pub record EndedAt (value : ℕ) (s t : Search) : Type 0 where
  pub low : t.low ≡ value
  pub high : t.high ≡ value
  pub rank : t.rank ≡ s.rank

-- s in the keys below a value that `under` keys are below
abbrev pub lower_part : ℕ → ℕ → Search → Search
lower_part value under s = record { low = s.low; high = value - 1; rank = s.rank; before = s.before; through = under }

-- s in the keys above a value that `reach` keys are at most
abbrev pub upper_part : ℕ → ℕ → Search → Search
upper_part value reach s = record { low = value + 1; high = s.high; rank = s.rank; before = reach; through = s.through }

-- a key lies below the value, or above it, wherever s is to go there
abbrev pub Partable : ℕ → ℕ → ℕ → Search → Type 0
Partable value under reach s = (s.rank < under → 0 < value) × (reach ≤ s.rank → value < 2 ^ 64 - 1)

-- t is s parted at a value: in the keys below it, ended at it, or in the keys above it
abbrev pub Parted : ℕ → ℕ → ℕ → Search → Search → Type 0
Parted value under reach s t =
    ((s.rank < under) × (t ≡ lower_part value under s))
    ⊎ (((under ≤ s.rank) × (s.rank < reach) × EndedAt value s t) ⊎ ((reach ≤ s.rank) × (t ≡ upper_part value reach s)))
