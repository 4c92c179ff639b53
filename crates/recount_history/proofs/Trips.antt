-- THE LINE `rtt` OF A GOOD LOG. Assumes nothing.
use Rattle.std.specs.Prelude.{Option, None, Some, Ok}
use mathlib.Core.Path.{◌≡◌, refl, sym, ap, ◌∙◌}
use mathlib.Core.List.{List}
use Prim.Native.Nat.{ℕ, ◌≤◌}
use native.Mathlib.Omega.{arith}
use lib.IntN.{ℤ, pos, negsuc}
use lib.ListN.{length}
use Rattle.limits.specs.Limits.{capacity}
use Rattle.history.specs.Ledger.{Event, events}
use Rattle.history.specs.FollowUps.{round_trips}
use Rattle.history.specs.Figures.{figures_of, least, greatest}
use Rattle.observe_history.specs.RoundTrips.{extreme_of, delays_from}
use Rattle.link_figures.specs.Figures.{time_of, round_trip_of}
use Rattle.log_whole.specs.declared.Settings.{Settings}
use Rattle.log_whole.specs.Logs.{log_of}
use Rattle.link_history.specs.Fresh.{Watching}
use Rattle.report_history.specs.Figures.{watching_by, figures_from, report_from}
use Rattle.recount_seen.specs.Seen.{events_of}
use Rattle.recount_marks.specs.Marks.{Marked}
use Rattle.recount_trips.specs.Trips.{value_of, trips_of}
use Rattle.recount_history.specs.Settings.{watched_in, Timed}
use Rattle.recount_history.proofs.Marked.{served_in, marks_say}
use Rattle.recount_history.proofs.Whole.{few_records, timed}

-- a least or a greatest, as it is shown of the sums and of the list
extreme_shown : (x : Option ℤ) → time_of (extreme_of x) ≡ value_of x
extreme_shown None = refl
extreme_shown (Some (pos n)) = refl
extreme_shown (Some (negsuc n)) = refl

trips-shown : (zs : List ℤ) → round_trip_of (delays_from (figures_of zs)) ≡ trips_of zs
trips-shown zs = λ i. record { samples = length zs; min = extreme_shown (least zs) i; max = extreme_shown (greatest zs) i }

module _ (log : List ℕ) (s : Settings) (g : log_of log ≡ Ok s) (marks : List ℕ) where
  abbrev v : Watching
  v = watching_by s.threshold s.timeout

  module _ (marked : Marked (watched_in v) s.timeout log marks s.count) where
    abbrev ok : Timed v s.timeout
    ok = timed s.threshold s.timeout

    few : s.count ≤ capacity
    few = omega (arith, few_records log s g)

    -- "rtt samples N min N max N"
    pub rtt_line : (report_from log s).rtt ≡ trips_of (round_trips (events_of log marks s.count))
    unfolding figures_from
    rtt_line =
        trips-shown (round_trips (events capacity (served_in v s.timeout ok log s.count)))
        ∙ ap (λ (es : List Event). trips_of (round_trips es)) (sym (marks_say v s.timeout ok log marks s.count few marked s.count (omega arith)))
