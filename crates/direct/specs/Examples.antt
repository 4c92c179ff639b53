-- Document 01's proved examples 7 and 8, over the definitions.
use Rattle.std.specs.Prelude.{◌≡◌, ℕ, Bool, true, false, refl, Some}
use Rattle.call_types.specs.declared.CounterPoint.{CounterPoint}
use Rattle.limits.specs.Limits.{capacity}
use Rattle.direct.specs.declared.Direct.{Direct}
use Rattle.direct.specs.Offsets.{offset}
use Rattle.direct.specs.Outcomes.{recorded, fresh_direct}
use Rattle.direct.specs.Shown.{summary_of}

-- the counters in document 01's order: S_TxC, R_RxC, R_TxC
abbrev pub point : ℕ → ℕ → ℕ → CounterPoint
point s r t = record { sender = record { 0 = s }; received = record { 0 = r }; transmitted = record { 0 = t } }

-- the fresh measurement after the counters (10,10,10) of a reply whose probe has the ordinal 10: the anchor
abbrev pub first : Direct
first = (recorded capacity fresh_direct (point 10 10 10) (Some 10) false).direct

-- then (12,12,13) of ordinal 12, whose transmit offset 3 was not seen before
abbrev pub second : Direct
second = (recorded capacity first (point 12 12 13) (Some 12) false).direct

-- then (11,11,11) of ordinal 11, whose transmit offset 1 was not seen before
abbrev pub third : Direct
third = (recorded capacity second (point 11 11 11) (Some 11) false).direct

-- "(7) anchor (10,10,10), then (12,12,13): forward 0, reverse 2"
pub example_7 : ((summary_of second).spans.forward ≡ Some 0) × ((summary_of second).spans.reverse ≡ Some 2)
unfolding recorded offset
example_7 = (refl, refl)

-- "(8) then (11,11,11): reordered, reverse 1"
pub example_8 : ((summary_of third).counts.reordered ≡ 1) × ((summary_of third).spans.reverse ≡ Some 1)
unfolding recorded offset
example_8 = (refl, refl)
