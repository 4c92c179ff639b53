-- Both directions in twelve lent words, six each. Assumes nothing.
use Rattle.std.specs.Prelude.{Bool, true, false, List, [], ◌∷◌, ℕ, ◌+◌, get_or, set}
use Rattle.host_numbers.specs.Numbers.{flag_word, is_set}
use Rattle.directions.specs.declared.OwdDirection.{OwdDirection}
use Rattle.directions.specs.declared.Directions.{Directions}

-- what twelve words say, whatever they hold
abbrev pub directions_at : List ℕ → Directions
directions_at ws = record {
  forward = record {
    quantiles = record { signed = true; count = get_or ws 0 0; min = get_or ws 1 0; max = get_or ws 2 0 };
    sum = record { negative = is_set (get_or ws 3 0); high = get_or ws 4 0; low = get_or ws 5 0 };
  };
  reverse = record {
    quantiles = record { signed = true; count = get_or ws 6 0; min = get_or ws 7 0; max = get_or ws 8 0 };
    sum = record { negative = is_set (get_or ws 9 0); high = get_or ws 10 0; low = get_or ws 11 0 };
  };
}

-- where a direction's six words begin
abbrev pub words_start : Bool → ℕ
words_start false = 0
words_start true = 6

-- the six words of a direction
abbrev pub direction_words : OwdDirection → List ℕ
direction_words d =
    d.quantiles.count ∷ d.quantiles.min ∷ d.quantiles.max ∷ flag_word d.sum.negative ∷ d.sum.high ∷ d.sum.low ∷ []

-- the twelve words of both
abbrev pub directions_words : Directions → List ℕ
directions_words ds =
    ds.forward.quantiles.count ∷ ds.forward.quantiles.min ∷ ds.forward.quantiles.max
    ∷ flag_word ds.forward.sum.negative ∷ ds.forward.sum.high ∷ ds.forward.sum.low
    ∷ ds.reverse.quantiles.count ∷ ds.reverse.quantiles.min ∷ ds.reverse.quantiles.max
    ∷ flag_word ds.reverse.sum.negative ∷ ds.reverse.sum.high ∷ ds.reverse.sum.low ∷ []

-- the words with other words for a direction's count and sum; its least and its greatest stay
abbrev pub more_words : List ℕ → ℕ → ℕ → Bool → ℕ → ℕ → List ℕ
more_words ws at count negative high low = set (set (set (set ws at count) (at + 3) (flag_word negative)) (at + 4) high) (at + 5) low
