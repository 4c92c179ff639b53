-- The integer that a sign and two words say: the magnitude is high * 2 ^ 64 + low. Assumes nothing.
use Rattle.std.specs.Prelude.{ℕ, ◌+◌, ◌*◌, ◌^◌, Bool, true, false, ℤ, pos, neg_ℤ}

-- two words, the high one first
abbrev pub magnitude : ℕ → ℕ → ℕ
magnitude high low = high * 2 ^ 64 + low

-- zero has one value, whatever its sign
abbrev pub signed : Bool → ℕ → ℤ
signed false n = pos n
signed true n = neg_ℤ (pos n)
