-- The round trips as the report shows them, and what one record more changes. Assumes nothing.
use Rattle.call_types.specs.declared.ReplyObservation.{ReplyObservation}
use Rattle.std.specs.Prelude.{cond, List, ℕ, ◌+◌, ltb, ℤ, nat_abs, length, Some, None, Option}
use Rattle.history.specs.Figures.{least, greatest}
use Rattle.report.specs.declared.figures.RoundTrip.{RoundTrip}

-- a time in ns, absent where there is none: a round trip is not negative
abbrev pub value_of : Option ℤ → Option ℕ
value_of None = None
value_of (Some z) = Some (nat_abs z)

-- of these: how many, the least and the greatest
abbrev pub trips_of : List ℤ → RoundTrip
trips_of zs = record { samples = length zs; min = value_of (least zs); max = value_of (greatest zs) }

-- the lesser of the least so far and one more
abbrev pub shorter : Option ℕ → ℕ → Option ℕ
shorter None ns = Some ns
shorter (Some old) ns = cond (ltb ns old) (Some ns) (Some old)

-- the greater of the greatest so far and one more
abbrev pub longer : Option ℕ → ℕ → Option ℕ
longer None ns = Some ns
longer (Some old) ns = cond (ltb old ns) (Some ns) (Some old)

-- with one more
abbrev pub trips_with : ℕ → RoundTrip → RoundTrip
trips_with ns t = record { samples = t.samples + 1; min = shorter t.min ns; max = longer t.max ns }

-- one record more
abbrev pub trips_next : Option ReplyObservation → RoundTrip → RoundTrip
trips_next None t = t
trips_next (Some o) t = trips_with o.rtt t
