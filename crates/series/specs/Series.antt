-- A sample of a series whose sums stand beside its quantiles: 5 where `record` of the quantiles refuses it, then 4 where the sums have no room,
-- then what `record` answers and leaves. Assumes nothing.
use Rattle.std.specs.Prelude.{ℕ, Bool, not, List, nat_lt}
use Rattle.limits.specs.Refusals.{wrong_room, counts_full}
use Rattle.limits.specs.Limits.{sum_bound}
use Rattle.floats.specs.Whole.{magnitude}
use Rattle.delays.specs.declared.Sum.{Sum}
use Rattle.quantiles.specs.declared.Quantiles.{Quantiles}
use Rattle.quantiles.specs.Record.{Outcome, still, refuses, pick_outcome, recorded}

-- a sum's magnitude is below 2^126
abbrev pub sum_fits : Sum → Bool
sum_fits s = nat_lt (magnitude s.high s.low) sum_bound

-- 5 as the quantiles refuse; then 4 where the sums do not fit; then Rust's answer
unfoldable pub recorded_beside : Bool → Quantiles → List ℕ → ℕ → Outcome
unfolding still
recorded_beside fits q room v =
    pick_outcome (refuses q room v) (still wrong_room q room) (pick_outcome (not fits) (still counts_full q room) (recorded q room v))
