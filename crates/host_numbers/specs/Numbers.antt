-- Small numbers in words. The bits of an f64 are the logic's own `to_bits` and `of_bits` of `lib.Ieee`, where every NaN is one value with one
-- pattern. That nothing is lost is shown in proofs/Back.antt. Assumes nothing.
use Rattle.std.specs.Prelude.{Bool, cond, not, ℕ, ◌+◌, ◌*◌, ◌/◌, ◌%◌, ◌^◌, eqb}

-- the first of the two numbers below 2 ^ 32 that a word holds: its lower half
abbrev pub lower : ℕ → ℕ
lower word = word % 2 ^ 32

-- the second of them: the upper half of a word
abbrev pub upper : ℕ → ℕ
upper word = word / 2 ^ 32 % 2 ^ 32

-- the word of two such numbers
abbrev pub joined : ℕ → ℕ → ℕ
joined first second = first + second * 2 ^ 32

-- a flag as a word: 1 is yes, 0 is no
abbrev pub flag_word : Bool → ℕ
flag_word set = cond set 1 0

-- a word as a flag: 0 is no, anything else yes
abbrev pub is_set : ℕ → Bool
is_set word = not (eqb word 0)
