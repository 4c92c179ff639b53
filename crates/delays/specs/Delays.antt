-- What a sample leaves of the delays, over the integers. Assumes nothing.
use Rattle.std.specs.Prelude.{cond, ◌+◌, pos, ◌+ℤ◌, Option, Some, None}
use Rattle.std.specs.Int.Signed.{lt_z}
use Rattle.delays.specs.declared.Nanoseconds.{Nanoseconds}
use Rattle.delays.specs.declared.Delays.{Delays}
use Rattle.delays.specs.Sums.{value_of, total_of, sum_of}

-- the sample where it is below the smallest, or the first
abbrev pub lesser : Option Nanoseconds → Nanoseconds → Option Nanoseconds
lesser None ns = Some ns
lesser (Some least) ns = Some (cond (lt_z (value_of ns) (value_of least)) ns least)

-- the sample where it is above the largest, or the first
abbrev pub greater : Option Nanoseconds → Nanoseconds → Option Nanoseconds
greater None ns = Some ns
greater (Some most) ns = Some (cond (lt_z (value_of most) (value_of ns)) ns most)

-- no sample yet
abbrev pub fresh : Delays
fresh = record { count = 0; sum = sum_of (pos 0); min = None; max = None }

-- what `record` leaves
abbrev pub recorded_of : Delays → Nanoseconds → Delays
recorded_of d ns = record {
  count = d.count + 1;
  sum = sum_of (total_of d.sum +ℤ value_of ns);
  min = lesser d.min ns;
  max = greater d.max ns;
}
