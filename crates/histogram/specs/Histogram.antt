-- A histogram: a list of counts, one for each bucket, or one for each block of buckets. Assumes nothing.
use Rattle.std.specs.Prelude.{Bool, true, false, List, [], ◌∷◌, ℕ, ◌+◌, ◌-◌, ltb, get_or, set}

-- how many samples the buckets have, all together
unfoldable pub total : List ℕ → ℕ
total [] = 0
total (n ∷ ns) = n + total ns

-- the one number or the other, by a test
abbrev pub either : Bool → ℕ → ℕ → ℕ
either true a b = a
either false a b = b

-- the bucket of a rank: the first with which the counts, added up, pass the rank
unfoldable pub bucket_at : List ℕ → ℕ → ℕ
bucket_at [] r = 0
bucket_at (n ∷ ns) r = either (ltb r n) 0 (1 + bucket_at ns (r - n))

-- what is left of a rank in its bucket: the rank less what the buckets before it have
unfoldable pub left_at : List ℕ → ℕ → ℕ
left_at [] r = r
left_at (n ∷ ns) r = either (ltb r n) r (left_at ns (r - n))

-- one sample more in a bucket
abbrev pub bumped : List ℕ → ℕ → List ℕ
bumped b i = set b i (get_or b i 0 + 1)
