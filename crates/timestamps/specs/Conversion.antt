-- What a raw 64-bit timestamp says near a second r (document 02, Q-9): a time in ns since 1970, or none. Its words are RFC 5905's (section 6, NTP)
-- and RFC 8877's (section 4.3, PTP truncated). Nothing is worked out here: which second is meant, and which time. That there is exactly one
-- is proved in proofs/Seconds.antt and proofs/Outcome.antt. Assumes nothing.
use Rattle.std.specs.Prelude.{◌≡◌, ℕ, ◌*◌, ◌/◌, ◌%◌, ◌^◌, true, false, cond, ℤ, pos, ◌+ℤ◌, ◌-ℤ◌, ◌*ℤ◌, ◌≤ℤ◌, ◌<ℤ◌, nat_lt, Some, None, Option}
use Rattle.estimate.specs.declared.ClockFormat.{ClockFormat}
use Rattle.estimate.specs.declared.ClockFormat.TheVariants as format
use Rattle.ranges.specs.Ranges.{time_within}

-- an era: what 32 bits of seconds count
abbrev pub era : ℕ
era = 2 ^ 32

-- half of it
abbrev pub half_era : ℕ
half_era = 2 ^ 31

-- 10^9 ns are a second
abbrev pub billion : ℕ
billion = 1000000000

-- from 1900, where NTP counts from, to 1970: 2,208,988,800 s
abbrev pub ntp_epoch : ℕ
ntp_epoch = 2208988800

-- the upper 32 bits
abbrev pub seconds_field : ℕ → ℕ
seconds_field w = w / era

-- the lower 32 bits
abbrev pub fraction_field : ℕ → ℕ
fraction_field w = w % era

-- the second that the wire says, in the era in which the count began. NTP: "seconds since 1900"; PTP: "seconds since 1970 in the PTP timescale"
abbrev pub wire_second : ClockFormat → ℕ → ℤ
wire_second format.NTP w = pos (seconds_field w) -ℤ pos ntp_epoch
wire_second format.PTP w = pos (seconds_field w)

-- the ns after that second. NTP: "fraction to ns rounded down"; PTP: "no conversion if the ns field is 10^9 or more"
abbrev pub wire_nanoseconds : ClockFormat → ℕ → Option ℕ
wire_nanoseconds format.NTP w = Some (fraction_field w * billion / era)
wire_nanoseconds format.PTP w = cond (nat_lt (fraction_field w) billion) (Some (fraction_field w)) None

-- "of all eras the one whose Unix second lies from r-2^31 up to but not including r+2^31": s is x moved by whole eras, and in the window of r
pub record IsSecond (x r s : ℤ) : Type 0 where
  pub eras : ℤ
  pub moved : s ≡ x +ℤ eras *ℤ pos era
  pub from : (r -ℤ pos half_era) ≤ℤ s
  pub below : s <ℤ (r +ℤ pos half_era)

-- t is the time in ns that the timestamp w says near r
pub record IsTime (f : ClockFormat) (w : ℕ) (r t : ℤ) : Type 0 where
  pub second : ℤ
  pub ns : ℕ
  pub is_second : IsSecond (wire_second f w) r second
  pub is_ns : wire_nanoseconds f w ≡ Some ns
  pub sum : t ≡ second *ℤ pos billion +ℤ pos ns

-- the conversion: the time that the timestamp says, where it is in document 01's range of T3; absent where it says none in that range
abbrev pub Converts : ClockFormat → ℕ → ℤ → Option ℤ → Type 0
Converts f w r (Some t) = IsTime f w r t × (time_within t ≡ true)
Converts f w r None = (t : ℤ) → IsTime f w r t → time_within t ≡ false
