use Prim.Native.Nat.{◌+◌}
use Rattle.recount_trips.proofs.trips_with.Goals as goal

pub returns : goal.returns
returns c =
    let a = c.shorter.ensures in
    let b = c.longer.ensures in
    λ i. record { samples = c.args.t.samples + 1; min = a i; max = b i }
