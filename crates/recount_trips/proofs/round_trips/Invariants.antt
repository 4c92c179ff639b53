use mathlib.Core.Path.{◌≡◌}
use Prim.Native.Nat.{◌-◌, ◌≤◌}
use Rattle.history.specs.FollowUps.{round_trips}
use Rattle.recount_seen.specs.Seen.{events_of}
use Rattle.recount_trips.specs.Trips.{trips_of}
use Rattle.recount_trips.proofs.round_trips.Given as goal

abbrev pub invariant-loop-j : goal.invariant-loop-j
invariant-loop-j l = (l.t ≡ trips_of (round_trips (events_of l.records.log.now l.records.marks.now l.j))) × (l.t.samples ≤ l.j)
