-- Four percentiles of an exact room at once. Assumes nothing.
use Rattle.std.specs.Prelude.{List, [], ◌∷◌, ℕ, ◌+◌, ◌-◌, Float, length, get_or, set}
use Rattle.std.specs.Float.{nan}
use Rattle.rank.specs.Rank.{rank_of}
use Rattle.quantiles.specs.declared.Quantiles.{Quantiles}
use Rattle.percentiles.specs.Percentiles.{percentile}

-- place i, or the last of `many` where there is no such place
abbrev pub or_last : ℕ → ℕ → ℕ
or_last many i = i - (i + 1 - many)

-- the rank of the percentile at place i, or of the last
abbrev pub rank_at : List Float → ℕ → ℕ → ℕ
rank_at ps count i = rank_of (get_or ps (or_last (length ps) i) nan) count

-- the ranks of the four percentiles from place i on
abbrev pub four_ranks : List Float → ℕ → ℕ → List ℕ
four_ranks ps count i = rank_at ps count i ∷ rank_at ps count (i + 1) ∷ rank_at ps count (i + 2) ∷ rank_at ps count (i + 3) ∷ []

-- the lent answer with the value of percentile i, or of the last, at its place
abbrev pub put : Quantiles → List ℕ → List Float → List ℕ → ℕ → List ℕ
put q room ps shown i = set shown (or_last (length ps) i) (percentile q room (get_or ps (or_last (length ps) i) nan))

-- and with those of the four from place i on
abbrev pub put_four : Quantiles → List ℕ → List Float → List ℕ → ℕ → List ℕ
put_four q room ps shown i = put q room ps (put q room ps (put q room ps (put q room ps shown i) (i + 1)) (i + 2)) (i + 3)
