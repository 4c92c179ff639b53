-- The same conversion, worked out: for definitions that count by it, and for examples. That it is the one that specs/Conversion.antt defines
-- is proved in proofs/Outcome.antt. Assumes nothing.
use Rattle.std.specs.Prelude.{ℕ, ◌-◌, ◌%◌, Bool, true, false, ℤ, pos, negsuc, ◌+ℤ◌, ◌-ℤ◌, ◌*ℤ◌, Some, None, Option}
use Rattle.estimate.specs.declared.ClockFormat.{ClockFormat}
use Rattle.ranges.specs.Ranges.{time_within}
use Rattle.timestamps.specs.Conversion.{era, half_era, billion, wire_second, wire_nanoseconds}

-- what is left of z when whole eras are taken away, from 0 up to but not including an era
abbrev pub in_era : ℤ → ℕ
in_era (pos n) = n % era
in_era (negsuc n) = era - 1 - n % era

-- the second of the window of r that is x moved by whole eras
unfoldable pub second_near : ℤ → ℤ → ℤ
second_near x r = r -ℤ pos half_era +ℤ pos (in_era (x -ℤ (r -ℤ pos half_era)))

-- a time, absent unless it is in range
abbrev pub time_if : Bool → ℤ → Option ℤ
time_if true t = Some t
time_if false t = None

-- a second and the ns after it, as a time in range or none
abbrev pub time_at : ℤ → ℕ → Option ℤ
time_at s ns = time_if (time_within (s *ℤ pos billion +ℤ pos ns)) (s *ℤ pos billion +ℤ pos ns)

-- the same, where the wire says how many ns
abbrev pub time_by : Option ℕ → ℤ → Option ℤ
time_by None s = None
time_by (Some ns) s = time_at s ns

-- the conversion of the timestamp w near r
unfoldable pub converted : ClockFormat → ℕ → ℤ → Option ℤ
converted f w r = time_by (wire_nanoseconds f w) (second_near (wire_second f w) r)
