-- The words of a call in the order in which the code stores them. Assumes nothing.
use Rattle.std.specs.Prelude.{List, ℕ, ◌+◌, set}
use Rattle.host_numbers.specs.Numbers.{lower, upper}

-- a number of 8 bytes at a place
abbrev pub long_at : List ℕ → ℕ → ℕ → List ℕ
long_at ws at n = set (set ws at (lower n)) (at + 1) (upper n)
