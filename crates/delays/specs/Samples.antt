-- What the delays show, from the plain list of their samples, the newest first: count, sum, least and greatest. Assumes nothing.
use Rattle.std.specs.Prelude.{◌≡◌, ◌⊎◌, List, [], ◌∷◌, length, ℤ, pos, ◌+ℤ◌, ◌≤ℤ◌, Option, Some, None}
use Rattle.delays.specs.declared.Nanoseconds.{Nanoseconds}
use Rattle.delays.specs.declared.Delays.{Delays}
use Rattle.delays.specs.Sums.{value_of, sum_of}
use Rattle.delays.specs.Delays.{fresh, recorded_of}

-- the sum of the samples, as an integer
unfoldable pub total : List Nanoseconds → ℤ
total [] = pos 0
total (s ∷ ss) = total ss +ℤ value_of s

-- m is one of the samples
abbrev pub Among : Nanoseconds → List Nanoseconds → Type 0
Among m [] = ⊥
Among m (s ∷ ss) = (m ≡ s) ⊎ Among m ss

-- m is at most each sample
abbrev pub AtMostAll : Nanoseconds → List Nanoseconds → Type 0
AtMostAll m [] = Unit {0}
AtMostAll m (s ∷ ss) = (value_of m ≤ℤ value_of s) × AtMostAll m ss

-- m is at least each sample
abbrev pub AtLeastAll : Nanoseconds → List Nanoseconds → Type 0
AtLeastAll m [] = Unit {0}
AtLeastAll m (s ∷ ss) = (value_of s ≤ℤ value_of m) × AtLeastAll m ss

-- the least sample, and none where there is none
abbrev pub Least : List Nanoseconds → Option Nanoseconds → Type 0
Least ss None = ss ≡ []
Least ss (Some m) = Among m ss × AtMostAll m ss

-- the greatest sample, and none where there is none
abbrev pub Greatest : List Nanoseconds → Option Nanoseconds → Type 0
Greatest ss None = ss ≡ []
Greatest ss (Some m) = Among m ss × AtLeastAll m ss

-- the delays that recording the samples leaves
unfoldable pub played : List Nanoseconds → Delays
played [] = fresh
played (s ∷ ss) = recorded_of (played ss) s

-- each field, from the samples alone
pub record Shows (ss : List Nanoseconds) (d : Delays) : Type 0 where
  pub count : d.count ≡ length ss
  pub sum : d.sum ≡ sum_of (total ss)
  pub min : Least ss d.min
  pub max : Greatest ss d.max
