-- Whether a raw timestamp says a time, and what is tried to find out. Assumes nothing.
use Rattle.std.specs.Prelude.{Bool, ◌&&◌, ◌||◌, ℕ, ℤ, pos, ◌+ℤ◌, ◌-ℤ◌, ◌*ℤ◌}
use Rattle.std.specs.Int.Signed.{le_z, lt_z}
use Rattle.estimate.specs.declared.ClockFormat.{ClockFormat}
use Rattle.ranges.specs.Ranges.{time_within}
use Rattle.timestamps.specs.Conversion.{era, half_era, billion}
use Rattle.timestamps.specs.Converted.{converted}
use Rattle.history.specs.Counting.{present}
use Rattle.history.specs.Given.{time_of}

-- the conversion of crate timestamps has an outcome
abbrev pub says_time : ClockFormat → (timestamp : ℕ) → (near : ℤ) → Bool
says_time format timestamp near = present (time_of (converted format timestamp near))

-- a second in the window of r, whose time is in document 01's range of T3
unfoldable pub fits : (r second : ℤ) → (ns : ℕ) → Bool
fits r second ns = le_z (r -ℤ pos half_era) second && (lt_z second (r +ℤ pos half_era) && time_within (second *ℤ pos billion +ℤ pos ns))

-- the same of this second, of the one an era before it, or of the one an era after it
unfoldable pub in_some_era : (r second : ℤ) → (ns : ℕ) → Bool
in_some_era r second ns = (fits r (second -ℤ pos era) ns || fits r second ns) || fits r (second +ℤ pos era) ns
