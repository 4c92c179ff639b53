-- What the words of a slot keep: a record whose numbers fit. Assumes nothing.
use Rattle.std.specs.Prelude.{◌≡◌, true, ◌<◌, Option, Some, None, ℕ, ℤ}
use Rattle.std.specs.Int.{w64}
use Rattle.std.proofs.Common.{SFits}
use Rattle.ranges.specs.Ranges.{time_within}
use Rattle.correlation.specs.declared.ReplyRecord.{ReplyRecord}

-- a time, where there is one: in its range
abbrev pub TimeFits : Option ℤ → Type 0
TimeFits None = Unit
TimeFits (Some z) = SFits w64 z × (time_within z ≡ true)

-- two estimates, where there are any
abbrev pub WiresFit : Option (ℕ × ℕ) → Type 0
WiresFit None = Unit
WiresFit (Some (s, r)) = (s < 65536) × (r < 65536)

-- a record, where there is one
abbrev pub RecordFits : Option ReplyRecord → Type 0
RecordFits None = Unit
RecordFits (Some r) = TimeFits r.t4 × WiresFit r.quality × SFits w64 r.reference
