-- `quantiles::fill` The loop's invariant: the buckets and the totals have the first i samples, and the samples are kept. Assumes nothing.
use mathlib.Core.Path.{◌≡◌}
use Prim.Native.Nat.{◌≤◌, ◌-◌}
use lib.ListN.{length, take}
use Rattle.quantile_room.specs.Room.{room_size}
use Rattle.quantiles.proofs.Tally.{holding}
use Rattle.quantiles.proofs.fill.Given as goal

abbrev pub invariant-loop-i : goal.invariant-loop-i
invariant-loop-i l = (l.i ≤ 4096) × (length l.initial.room ≡ room_size l.signed) × (length l.room ≡ room_size l.signed) × (l.room ≡ holding l.signed l.initial.room (take l.i l.initial.room))
