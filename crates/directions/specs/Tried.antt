-- A sample that changes neither the least nor the greatest of its direction. Assumes nothing.
use Rattle.std.specs.Prelude.{◌≡◌, Bool, true, false, List, ℕ, ◌+◌, ◌^◌, ◌<◌}
use Rattle.quantiles.specs.Between.{one_more}
use Rattle.directions.specs.declared.OwdDirection.{OwdDirection}
use Rattle.directions.specs.Direction.{left, grown_of}
use Rattle.directions.specs.Directions.{start_of, record_own, Untouched}

-- what a try leaves: true says that the sample is taken, with one more in the count, the sum with it, and the slice as it is now; false that nothing
-- was done
abbrev pub TriedOwn : Bool → OwdDirection → List ℕ → Bool → ℕ → List ℕ → Type 0
TriedOwn true d slice reverse v after =
    (d.quantiles.count + 1 < 2 ^ 64) × (left 0 true (grown_of d (one_more d.quantiles) v) after ≡ record_own d slice reverse v) × Untouched (start_of reverse) slice after
TriedOwn false d slice reverse v after = after ≡ slice
