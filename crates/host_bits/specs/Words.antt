-- A summary in eight lent words, and what may be absent in two: 0 and 0, or 1 and the value. Assumes nothing.
use Rattle.std.specs.Float.Ieee.{Float}
use Rattle.std.specs.Prelude.{cond, List, [], ◌∷◌, ℕ, eqb, get_or, Option, Some, None}
use Rattle.std.specs.Option.{unwrap_or}
use Rattle.std.specs.Float.{binary64}
use Rattle.std.specs.Float.Ieee.{to_bits}
use Rattle.host_numbers.specs.Numbers.{lower}
use Rattle.bit_summary.specs.declared.DirectionSummary.{DirectionSummary}

-- a burst: none where the first is 0
abbrev pub burst_from : ℕ → ℕ → Option ℕ
burst_from known bits = cond (eqb known 0) None (Some bits)

-- whether a value is there
abbrev pub known : {A : Type 0} → Option A → ℕ
known None = 0
known (Some x) = 1

-- a number, 0 where there is none
abbrev pub word_of : Option ℕ → ℕ
word_of n = unwrap_or n 0

-- the bits of a ratio's f64, 0 where there is none
abbrev pub ratio_word : Option Float → ℕ
ratio_word None = 0
ratio_word (Some x) = to_bits binary64 x

-- what eight words say, whatever they hold
abbrev pub summary_at : List ℕ → DirectionSummary
summary_at ws = record {
  received = get_or ws 0 0;
  faulty = get_or ws 1 0;
  bits = get_or ws 2 0;
  errors = get_or ws 3 0;
  bursts = get_or ws 4 0;
  sum = get_or ws 5 0;
  longest = burst_from (get_or ws 6 0) (lower (get_or ws 7 0));
}

-- the eight words of a summary
abbrev pub summary_words : DirectionSummary → List ℕ
summary_words d = d.received ∷ d.faulty ∷ d.bits ∷ d.errors ∷ d.bursts ∷ d.sum ∷ known d.longest ∷ word_of d.longest ∷ []
