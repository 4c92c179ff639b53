-- A number in decimal digits, as bytes, the most significant first. Assumes nothing.
use Rattle.std.specs.Prelude.{cond, List, [], ◌∷◌, ◌++◌, ℕ, zero, suc, ◌+◌, ◌-◌, ◌*◌, ◌/◌, ◌%◌, ltb}

-- the byte of a digit: '0' is 48, '9' is 57
abbrev pub digit : ℕ → ℕ
digit d = 48 + d

-- below ten one digit; else the digits of the tenth part, then the last digit. The first argument only bounds the steps
unfoldable pub digits_within : (steps : ℕ) → ℕ → List ℕ
digits_within zero n = []
digits_within (suc steps) n = let more = digits_within steps (n / 10) ++ (digit (n % 10) ∷ []) in cond (ltb n 10) (digit n ∷ []) more

-- the digits of n: a number has fewer tenth parts above 0 than it says
unfoldable pub decimal : ℕ → List ℕ
unfolding digits_within
decimal n = digits_within (suc n) n

-- how many digits a number of 64 bits has at most
abbrev pub most_digits : ℕ
most_digits = 20

-- what digits say that are read from the left, after a number that was read before them
abbrev pub value_after : ℕ → List ℕ → ℕ
value_after before [] = before
value_after before (b ∷ bs) = value_after (before * 10 + (b - 48)) bs

-- what digits say
abbrev pub value_of : List ℕ → ℕ
value_of bs = value_after 0 bs
