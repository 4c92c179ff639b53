-- What one pass over the samples tells, each in terms of `below`, the count of lower keys.
use Rattle.std.specs.Prelude.{◌≡◌, ℕ, zero, suc, ◌+◌, ◌-◌, ◌*◌, ◌^◌, ◌<◌, ◌≤◌, List, take, slice_index}
use Rattle.sample_passes.specs.Keys.{shifted}
use Rattle.sample_passes.specs.Counting.{below}

-- r is where the keys from low to high begin: no key lies from low up to r, and one is r itself unless r is high
pub record Least (key : ℕ → ℕ) (xs : List ℕ) (low high r : ℕ) : Type 0 where
  pub from : low ≤ r
  pub to : r ≤ high
  pub none_before : below key r xs ≡ below key low xs
  pub met : r < high → below key r xs < below key (r + 1) xs

-- r is where the keys from low to high end: no key lies past r up to high, and one is r itself unless r is low
pub record Most (key : ℕ → ℕ) (xs : List ℕ) (low high r : ℕ) : Type 0 where
  pub from : low ≤ r
  pub to : r ≤ high
  pub none_after : below key (r + 1) xs ≡ below key (high + 1) xs
  pub met : low < r → below key r xs < below key (r + 1) xs

-- n samples more, from i on: where a distance led from low to where the keys begin, r does
abbrev pub Nearer : (ℕ → ℕ) → List ℕ → ℕ → ℕ → ℕ → ℕ → ℕ → Type 0
Nearer key xs low i n distance r =
    (r ≤ distance)
    × ((high : ℕ) → low ≤ high → high < 2 ^ 64 → distance ≤ high - low → Least key (take i xs) low high (low + distance)
    → Least key (take (i + n) xs) low high (low + r))

-- n samples more, from i on: where a distance led back from high to where the keys end, r does
abbrev pub Shorter : (ℕ → ℕ) → List ℕ → ℕ → ℕ → ℕ → ℕ → ℕ → Type 0
Shorter key xs high i n distance r =
    (r ≤ distance)
    × ((low : ℕ) → low ≤ high → distance ≤ high - low → Most key (take i xs) low high (high - distance)
    → Most key (take (i + n) xs) low high (high - r))

-- the lower of two numbers
abbrev pub capped : ℕ → ℕ → ℕ
capped a b = a - (a - b)

-- where the digit d begins: the keys from low to high are cut into digits of `width` keys
abbrev pub edge : ℕ → ℕ → ℕ → ℕ → ℕ
edge low high width d = capped (low + d * width) (high + 1)

-- each of the 256 counts is that of the keys of its digit
abbrev pub Counted : (ℕ → ℕ) → List ℕ → ℕ → ℕ → ℕ → List ℕ → Type 0
Counted key xs low high width counts =
    (d : ℕ) → d < 256 → slice_index counts d + below key (edge low high width d) xs ≡ below key (edge low high width (d + 1)) xs

-- n samples have a key from low to high, and where these are no more than 256, as many below a value as the first n of `keys` are
pub record Gathering (key : ℕ → ℕ) (xs : List ℕ) (low high n : ℕ) (keys : List ℕ) : Type 0 where
  pub number : below key low xs + n ≡ below key (high + 1) xs
  pub held : n ≤ 256 → (v : ℕ) → low ≤ v → v ≤ high + 1 → below key low xs + below (shifted 0) v (take n keys) ≡ below key v xs

-- the keys from low to high stand first in `keys`, unless there are more than 256
abbrev pub Gathered : (ℕ → ℕ) → List ℕ → ℕ → ℕ → List ℕ → Type 0
Gathered key xs low high keys =
    (n v : ℕ) → below key low xs + n ≡ below key (high + 1) xs → n ≤ 256 → low ≤ v → v ≤ high + 1
    → below key low xs + below (shifted 0) v (take n keys) ≡ below key v xs

-- the sum of the first n counts
unfoldable pub sum_to : List ℕ → ℕ → ℕ
sum_to counts zero = 0
sum_to counts (suc n) = sum_to counts n + slice_index counts n

-- the digit that holds a rank among the counts, and the rank within it
pub record Placed (counts : List ℕ) (rank digit left : ℕ) : Type 0 where
  pub small : digit < 256
  pub split : sum_to counts digit + left ≡ rank
  pub within : left < slice_index counts digit
