-- A clock quality without the last estimates of both sides. Assumes nothing.
use Rattle.std.specs.Prelude.{None}
use Rattle.clock_quality.specs.declared.ClockQuality.{ClockQuality}

-- a clock quality with no last estimate of either side
abbrev pub quality_without_last : ClockQuality → ClockQuality
quality_without_last q = record {
  samples = q.samples;
  both = q.both;
  unsynchronized = q.unsynchronized;
  invalid = q.invalid;
  unknown = q.unknown;
  invalid_sender = q.invalid_sender;
  invalid_reflector = q.invalid_reflector;
  invalid_both = q.invalid_both;
  sender = None;
  reflector = None;
  largest = q.largest;
}
