-- Where a search stands, and what one step of it keeps.
use Rattle.std.specs.Prelude.{◌≡◌, ℕ, ◌+◌, ◌-◌, ◌*◌, ◌^◌, ◌<◌, ◌≤◌, ◌⊎◌, List, slice_index}
use Rattle.sample_passes.specs.Counting.{below}
use Rattle.sample_passes.specs.Passes.{edge, sum_to}
use Rattle.sample_place.specs.declared.Search.{Search}
use Rattle.sample_place.specs.Places.{EndedAt, Parted}
use Rattle.exact_rank.specs.declared.Four.{Four}

-- the key of the search's rank is one of low to high; while these differ, the two counts are those of the keys below low and through high
pub record Inside (key : ℕ → ℕ) (xs : List ℕ) (s : Search) : Type 0 where
  pub ordered : s.low ≤ s.high
  pub few_below : below key s.low xs ≤ s.rank
  pub enough_through : s.rank < below key (s.high + 1) xs
  pub before_is : s.low < s.high → s.before ≡ below key s.low xs
  pub through_is : s.low < s.high → s.through ≡ below key (s.high + 1) xs

-- all four searches stand so
pub record AllInside (key : ℕ → ℕ) (xs : List ℕ) (f : Four) : Type 0 where
  pub first : Inside key xs f.first
  pub second : Inside key xs f.second
  pub third : Inside key xs f.third
  pub fourth : Inside key xs f.fourth

-- t is s some steps on: for the same rank, and ended where s has
pub record Follows (key : ℕ → ℕ) (xs : List ℕ) (s t : Search) : Type 0 where
  pub inside : Inside key xs t
  pub same_rank : t.rank ≡ s.rank
  pub stays_ended : s.low ≡ s.high → t.low ≡ t.high

-- each of four searches some steps on
pub record AllFollow (key : ℕ → ℕ) (xs : List ℕ) (f g : Four) : Type 0 where
  pub first : Follows key xs f.first g.first
  pub second : Follows key xs f.second g.second
  pub third : Follows key xs f.third g.third
  pub fourth : Follows key xs f.fourth g.fourth

-- two searches among the same keys
abbrev pub SameKeys : Search → Search → Type 0
SameKeys s t = (s.low ≡ t.low) × (s.high ≡ t.high)

-- what the counts of the digits from low to high must be for the search s to be led to one of them
pub record Leads (counts : List ℕ) (low high shift : ℕ) (s : Search) : Type 0 where
  pub started : s.before ≤ s.rank
  pub reached : s.rank < s.before + sum_to counts 256
  pub fits : s.before + sum_to counts 256 < 2 ^ 64
  pub within : (d : ℕ) → d < 256 → 0 < slice_index counts d → low + d * 2 ^ shift ≤ high

-- t is s led to the digit that holds its rank
pub record Led (counts : List ℕ) (low high shift : ℕ) (s t : Search) : Type 0 where
  pub digit : ℕ
  pub small : digit < 256
  pub start : t.low ≡ low + digit * 2 ^ shift
  pub end : t.high + 1 ≡ edge low high (2 ^ shift) (digit + 1)
  pub same_rank : t.rank ≡ s.rank
  pub before_is : t.before ≡ s.before + sum_to counts digit
  pub through_is : t.through ≡ s.before + sum_to counts (digit + 1)
  pub few_below : t.before ≤ t.rank
  pub enough_through : t.rank < t.through

-- t is s led on where it is among the node's keys, else s
abbrev pub LedWith : List ℕ → ℕ → ℕ → ℕ → Search → Search → Search → Type 0
LedWith counts low high shift node s t = (SameKeys s node × Led counts low high shift s t) ⊎ (t ≡ s)

-- t is s ended at a key where it is for the node's rank among the node's keys, else s
abbrev pub EndedWith : ℕ → Search → Search → Search → Type 0
EndedWith value node s t = (SameKeys s node × (s.rank ≡ node.rank) × EndedAt value s t) ⊎ (t ≡ s)

-- t is s parted where it is among the node's keys, else s
abbrev pub PartedWith : ℕ → ℕ → ℕ → Search → Search → Search → Type 0
PartedWith value under reach node s t = (SameKeys s node × Parted value under reach s t) ⊎ (t ≡ s)

-- the first search is parted, and the others with it
pub record AllParted (value under reach : ℕ) (f g : Four) : Type 0 where
  pub first : Parted value under reach f.first g.first
  pub second : PartedWith value under reach f.first f.second g.second
  pub third : PartedWith value under reach f.first f.third g.third
  pub fourth : PartedWith value under reach f.first f.fourth g.fourth

-- the counts lead the first search, and each that is among its keys
pub record LeadsAll (counts : List ℕ) (low high shift : ℕ) (f : Four) : Type 0 where
  pub first : Leads counts low high shift f.first
  pub second : SameKeys f.second f.first → Leads counts low high shift f.second
  pub third : SameKeys f.third f.first → Leads counts low high shift f.third
  pub fourth : SameKeys f.fourth f.first → Leads counts low high shift f.fourth

-- the first search is led, and the others with it
pub record AllLed (counts : List ℕ) (low high shift : ℕ) (f g : Four) : Type 0 where
  pub first : Led counts low high shift f.first g.first
  pub second : LedWith counts low high shift f.first f.second g.second
  pub third : LedWith counts low high shift f.first f.third g.third
  pub fourth : LedWith counts low high shift f.first f.fourth g.fourth

-- the first search is ended, and the others with it
pub record AllEnded (value : ℕ) (f g : Four) : Type 0 where
  pub first : EndedAt value f.first g.first
  pub second : EndedWith value f.first f.second g.second
  pub third : EndedWith value f.first f.third g.third
  pub fourth : EndedWith value f.first f.fourth g.fourth

-- one step: every search follows, and the first has fewer keys left
pub record Stepped (key : ℕ → ℕ) (xs : List ℕ) (f g : Four) : Type 0 where
  pub all : AllFollow key xs f g
  pub narrower : g.first.high - g.first.low < f.first.high - f.first.low

-- the search for a rank among all keys
abbrev pub whole : ℕ → ℕ → Search
whole count rank = record { low = 0; high = 2 ^ 64 - 1; rank = rank; before = 0; through = count }

-- the four searches, the next one first
abbrev pub turned_once : Four → Four
turned_once f = record { first = f.second; second = f.third; third = f.fourth; fourth = f.first }

-- every search is at its end
pub record AllAtEnd (f : Four) : Type 0 where
  pub first : f.first.low ≡ f.first.high
  pub second : f.second.low ≡ f.second.high
  pub third : f.third.low ≡ f.third.high
  pub fourth : f.fourth.low ≡ f.fourth.high
