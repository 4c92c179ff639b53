-- Worked examples of the definitions.
use Rattle.std.specs.Prelude.{◌≡◌, refl, true, false, pos}
use Rattle.std.specs.Float.{binary64}
use Rattle.std.specs.Float.Ieee.{round, of_int}
use Rattle.estimate.specs.declared.ErrorEstimate.{ErrorEstimate}
use Rattle.estimate.specs.declared.Reading.TheVariants.{Known, Invalid}
use Rattle.estimate.specs.Wire.{estimate_of, wire_of}
use Rattle.estimate.specs.Make.{smallest}
use Rattle.estimate.specs.Error.{reading_of}

-- synchronized, NTP, scale 32, multiplier 1: one second
abbrev second : ErrorEstimate
second = record { synchronized = true; ptp = false; scale = 32; multiplier = 1 }

second-read : estimate_of 0xa001 ≡ second
second-read = refl

second-written : wire_of second ≡ 0xa001
second-written = refl

second-in_ms : reading_of second ≡ Known (of_int binary64 (pos 1000))
unfolding round of_int
second-in_ms = refl

-- the default of a clock that is not synchronized, in PTP format
default_written : wire_of (smallest true) ≡ 0x4001
default_written = refl

-- a scale of seven bits is masked on the wire, and has no error in ms: the reading has the masked bits
abbrev wide : ErrorEstimate
wide = record { synchronized = false; ptp = false; scale = 65; multiplier = 2 }

wide-written : wire_of wide ≡ 0x0102
wide-written = refl

wide_invalid : reading_of wide ≡ Invalid 0x0102
wide_invalid = refl

-- the multiplier 0 is invalid, whatever the scale, and the reading has the 16 bits as received
nothing_invalid : (reading_of (estimate_of 0x8000) ≡ Invalid 0x8000) × (reading_of (estimate_of 0x5500) ≡ Invalid 0x5500)
nothing_invalid = (refl, refl)

-- the largest error: 255 * 2 ^ 31 seconds
largest-in_ms : reading_of (estimate_of 0xbfff) ≡ Known (of_int binary64 (pos 547608330240000))
unfolding round of_int
largest-in_ms = refl
