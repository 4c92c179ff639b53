-- Worked examples of the conversion. Assumes nothing.
use Rattle.std.specs.Prelude.{Some, None}
use Rattle.std.proofs.Common.{◌≡◌, ℕ, ◌+◌, ◌*◌, pos, negsuc, ◌+ℤ◌, refl}
use Rattle.estimate.specs.declared.ClockFormat.TheVariants.{NTP, PTP}
use Rattle.timestamps.specs.Conversion.{era}
use Rattle.timestamps.specs.Converted.{second_near, converted}

-- a raw timestamp of its two fields
abbrev raw : ℕ → ℕ → ℕ
raw seconds fraction = seconds * era + fraction

-- NTP, era 0: 2024-01-01
ntp_2024 : converted NTP (raw 3913056000 0) (pos 1704067200) ≡ Some (pos 1704067200000000000)
unfolding converted second_near
ntp_2024 = refl

-- the last second of era 0 and the largest fraction: 2036-02-07 06:28:15, one ns short of the next
ntp_last_of-era_0 : converted NTP (raw 4294967295 4294967295) (pos 2085978496) ≡ Some (pos 2085978495999999999)
unfolding converted second_near
ntp_last_of-era_0 = refl

-- the seconds field is 0 again: 2036-02-07 06:28:16
ntp_first_of-era_1 : converted NTP (raw 0 0) (pos 2085978495) ≡ Some (pos 2085978496000000000)
unfolding converted second_near
ntp_first_of-era_1 = refl

-- NTP, era 1: 2090-01-01
ntp_era_1 : converted NTP (raw 1700933504 0) (pos 3286912000) ≡ Some (pos 3786912000000000000)
unfolding converted second_near
ntp_era_1 = refl

-- a second before 1900, of the era before 0
ntp_era-before_0 : converted NTP (raw 3503956096 0) (negsuc 2999999999) ≡ Some (negsuc 2999999999999999999)
unfolding converted second_near
ntp_era-before_0 = refl

-- half a second before 1970
ntp_before_1970 : converted NTP (raw 2208988799 2147483648) (pos 0) ≡ Some (negsuc 499999999)
unfolding converted second_near
ntp_before_1970 = refl

-- one part of 2^32 is rounded down to 0 ns
ntp_one_part : converted NTP (raw 2208988800 1) (pos 0) ≡ Some (pos 0)
unfolding converted second_near
ntp_one_part = refl

-- the first second of the window, r - 2^31
ntp_window-first : converted NTP (raw 1761505152 0) (pos 1700000000) ≡ Some (negsuc 447483647999999999)
unfolding converted second_near
ntp_window-first = refl

-- the last one, r + 2^31 - 1
ntp_window-last : converted NTP (raw 1761505151 4294967295) (pos 1700000000) ≡ Some (pos 3847483647999999999)
unfolding converted second_near
ntp_window-last = refl

-- PTP: the largest ns field that converts, and the next, which does not
ptp_largest_ns : converted PTP (raw 1700000000 999999999) (pos 1700000000) ≡ Some (pos 1700000000999999999)
unfolding converted second_near
ptp_largest_ns = refl

ptp_ns_too_large : converted PTP (raw 1700000000 1000000000) (pos 1700000000) ≡ None
unfolding converted second_near
ptp_ns_too_large = refl

-- the same edges in PTP
ptp_window-first : converted PTP (raw 3847483648 7) (pos 1700000000) ≡ Some (negsuc 447483647999999992)
unfolding converted second_near
ptp_window-first = refl

ptp_window-last : converted PTP (raw 3847483647 0) (pos 1700000000) ≡ Some (pos 3847483647000000000)
unfolding converted second_near
ptp_window-last = refl

-- the offset is added to the reference: the timestamp of `ptp_window-first`, 37 s later, is a second of the era's end
ptp_offset : converted PTP (raw 3847483648 7) (pos 1700000000 +ℤ pos 37) ≡ Some (pos 3847483648000000007)
unfolding converted second_near
ptp_offset = refl

-- and that of `ptp_window-last`, 37 s earlier, is one of its beginning
ptp_offset_negative : converted PTP (raw 3847483647 0) (pos 1700000000 +ℤ negsuc 36) ≡ Some (negsuc 447483648999999999)
unfolding converted second_near
ptp_offset_negative = refl

-- a time before 1970
ptp_negative : converted PTP (raw 294967296 1) (negsuc 3999999999) ≡ Some (negsuc 3999999999999999998)
unfolding converted second_near
ptp_negative = refl

-- the range of T3: the largest time, and one ns more
largest : converted PTP (raw 4000000000 0) (pos 4000000000) ≡ Some (pos 4000000000000000000)
unfolding converted second_near
largest = refl

above-largest : converted PTP (raw 4000000000 1) (pos 4000000000) ≡ None
unfolding converted second_near
above-largest = refl

-- the least time, and one ns less
least : converted PTP (raw 294967296 0) (negsuc 3999999999) ≡ Some (negsuc 3999999999999999999)
unfolding converted second_near
least = refl

below-least : converted PTP (raw 294967295 999999999) (negsuc 3999999999) ≡ None
unfolding converted second_near
below-least = refl

-- no time is in range near so late a second
far : converted NTP (raw 0 0) (pos 9223372036854775807) ≡ None
unfolding converted second_near
far = refl
