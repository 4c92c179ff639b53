-- What a collector shows, from the plain list of its samples, the newest first: the whole numbers exactly, mean and sum of squares as the f64
-- steps over the list. Assumes nothing.
use Rattle.std.specs.Prelude.{◌≡◌, Bool, cond, List, [], ◌∷◌, ℕ, ◌+◌, ◌-◌, min, max, pos, length}
use Rattle.std.specs.Float.{binary64}
use Rattle.std.specs.Float.Ieee.{of_int}
use Rattle.delays.specs.Sums.{sum_of}
use Rattle.spread.specs.declared.Welford.{Welford}
use Rattle.spread.specs.declared.RttCollector.{RttCollector}
use Rattle.spread.specs.Spread.{apart, welford_from, fresh}
use Rattle.spread.specs.Record.{record_to}

-- all added up
unfoldable pub total : List ℕ → ℕ
total [] = 0
total (v ∷ vs) = total vs + v

-- the least; 0 of none
unfoldable pub least : List ℕ → ℕ
least [] = 0
least (v ∷ []) = v
least (v ∷ w ∷ vs) = min (least (w ∷ vs)) v

-- the greatest; 0 of none
unfoldable pub greatest : List ℕ → ℕ
greatest [] = 0
greatest (v ∷ []) = v
greatest (v ∷ w ∷ vs) = max (greatest (w ∷ vs)) v

-- the first sample, which is the list's last; 0 of none
unfoldable pub first : List ℕ → ℕ
first [] = 0
first (v ∷ []) = v
first (v ∷ w ∷ vs) = first (w ∷ vs)

-- the last sample; 0 of none
unfoldable pub last : List ℕ → ℕ
last [] = 0
last (v ∷ vs) = v

-- how far each sample is from the one before, all added up
unfoldable pub differences : List ℕ → ℕ
differences [] = 0
differences (v ∷ []) = 0
differences (v ∷ w ∷ vs) = differences (w ∷ vs) + apart v w

-- the centered Welford steps, one for each sample, around the first
unfoldable pub steps : List ℕ → Welford
steps [] = record { origin = 0; mean = of_int binary64 (pos 0); m2 = of_int binary64 (pos 0) }
steps (v ∷ vs) = welford_from (first (v ∷ vs)) (steps vs) (length (v ∷ vs)) v

-- each field, from the samples alone
pub record Shows (vs : List ℕ) (s : RttCollector) : Type 0 where
  pub count : s.quantiles.count ≡ length vs
  pub min : s.quantiles.min ≡ least vs
  pub max : s.quantiles.max ≡ greatest vs
  pub sum : s.sum ≡ sum_of (pos (total vs))
  pub welford : s.welford ≡ steps vs
  pub differences : s.jitter.sum ≡ sum_of (pos (differences vs))
  pub pairs : s.jitter.count ≡ length vs - 1
  pub last : s.jitter.last ≡ last vs
  pub unsigned : s.quantiles.signed ≡ fresh.quantiles.signed

-- a collector and its room
pub record Kept : Type 0 where
  pub state : RttCollector
  pub room : List ℕ

-- what calls leave, one after the other from fresh, refused ones included, in any room
unfoldable pub played : List ℕ → List ℕ → Kept
played room [] = record { state = fresh; room = room }
played room (v ∷ vs) = let k = played room vs in let o = record_to k.state k.room v in record { state = o.state; room = o.room }

-- the samples of the calls that answered true
unfoldable pub served : List ℕ → List ℕ → List ℕ
served room [] = []
served room (v ∷ vs) = let k = played room vs in cond (record_to k.state k.room v).answer (v ∷ served room vs) (served room vs)
