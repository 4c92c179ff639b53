-- The 16 bits of an error estimate (document 01, "Estimates and percentiles"): bit 15 synchronized, 14 Z, 13 to 8 scale, 7 to 0 multiplier.
-- Assumes nothing.
use Rattle.std.specs.Prelude.{Bool, true, false, ℕ, ◌+◌, ◌*◌, ◌/◌, ◌%◌, eqb}
use Rattle.estimate.specs.declared.ErrorEstimate.{ErrorEstimate}

-- a flag as a number
abbrev pub bit : Bool → ℕ
bit true = 1
bit false = 0

-- what a word says
abbrev pub estimate_of : ℕ → ErrorEstimate
estimate_of w = record {
  synchronized = eqb (w / 32768 % 2) 1;
  ptp = eqb (w / 16384 % 2) 1;
  scale = w / 256 % 64;
  multiplier = w % 256;
}

-- the word of an estimate, whose scale is masked to six bits
abbrev pub wire_of : ErrorEstimate → ℕ
wire_of e = bit e.synchronized * 32768 + bit e.ptp * 16384 + e.scale % 64 * 256 + e.multiplier
