-- A summary of delays in seven words: a time in ms is two of them, 0 and 0, or 1 and the bits of its f64. Assumes nothing.
use Rattle.std.specs.Float.Ieee.{Float}
use Rattle.std.specs.Prelude.{List, [], ◌∷◌, ℕ, Option, Some, None}
use Rattle.std.specs.Float.{binary64}
use Rattle.std.specs.Float.Ieee.{to_bits}
use Rattle.delays.specs.declared.DelaySummary.{DelaySummary}

-- whether there is a time in ms: 1 or 0
abbrev pub ms_known : Option Float → ℕ
ms_known None = 0
ms_known (Some x) = 1

-- the bits of its f64, 0 if absent
abbrev pub ms_bits : Option Float → ℕ
ms_bits None = 0
ms_bits (Some x) = to_bits binary64 x

-- the samples; then minimum, average and maximum in ms
abbrev pub summary_words : DelaySummary → List ℕ
summary_words d =
    d.samples ∷ ms_known d.min ∷ ms_bits d.min ∷ ms_known d.average ∷ ms_bits d.average ∷ ms_known d.max ∷ ms_bits d.max ∷ []
