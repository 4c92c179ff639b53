-- The limits of document 01. The laws of the core are stated over a capacity N; these numbers are put in once, here.
use Rattle.std.specs.Prelude.{ℕ, ◌^◌}

-- how many probes, accepted keys, seen offsets, queued probes and exact samples are held
abbrev pub capacity : ℕ
capacity = 4096

-- how many sent, accept and observe calls are served
abbrev pub most_calls : ℕ
most_calls = 4294967295

-- a count at or beyond this is refused
abbrev pub count_bound : ℕ
count_bound = 2 ^ 63

-- a sum whose magnitude is at or beyond this is refused
abbrev pub sum_bound : ℕ
sum_bound = 2 ^ 126
