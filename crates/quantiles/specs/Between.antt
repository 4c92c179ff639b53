-- A sample between the least and the greatest so far, which changes neither. Assumes nothing.
use Rattle.std.specs.Prelude.{◌≡◌, Bool, true, false, ◌&&◌, List, ℕ, ◌+◌, ◌^◌, ◌<◌, leb}
use Rattle.buckets.specs.Signed.{order}
use Rattle.quantiles.specs.declared.Quantiles.{Quantiles}
use Rattle.quantiles.specs.Record.{taken, recorded}

-- a value that is not below the least and not above the greatest
abbrev pub between : Quantiles → ℕ → Bool
between q v = leb (order q.signed q.min) (order q.signed v) && leb (order q.signed v) (order q.signed q.max)

-- the state with a sample more that changes neither
abbrev pub one_more : Quantiles → Quantiles
one_more q = record { signed = q.signed; count = q.count + 1; min = q.min; max = q.max }

-- what a try leaves: true says that `record` takes the sample, with one more in the count and the room as it is now; false that nothing was done
abbrev pub Tried : Bool → Quantiles → List ℕ → ℕ → List ℕ → Type 0
Tried true q room v after = (q.count + 1 < 2 ^ 64) × (taken (one_more q) after ≡ recorded q room v)
Tried false q room v after = after ≡ room
