-- What each direction shows, from the plain list of its own samples, the newest first. A sample is the two's complement word of an i64.
-- Assumes nothing.
use Rattle.std.specs.Prelude.{◌≡◌, Bool, true, false, not, ◌&&◌, cond, List, [], ◌∷◌, map, ℕ, ℤ, pos, ◌+ℤ◌, length}
use Rattle.std.specs.Int.{w64}
use Rattle.std.proofs.Common.{to_z}
use Rattle.delays.specs.Sums.{sum_of}
use Rattle.buckets.specs.Signed.{order}
use Rattle.directions.specs.declared.OwdDirection.{OwdDirection}
use Rattle.directions.specs.declared.Directions.{Directions}
use Rattle.directions.specs.Directions.{fresh_both, record_in}
use Rattle.spread_meaning.specs.Samples.{least, greatest}

-- all added up, as integers
unfoldable pub total : List ℕ → ℤ
total [] = pos 0
total (v ∷ vs) = total vs +ℤ to_z w64 v

-- the samples in the order of their values: each plus 2^63 (`order true`)
abbrev pub ordered : List ℕ → List ℕ
ordered vs = map (order true) vs

-- nothing is said of an extreme where there is no sample
abbrev pub Extreme : List ℕ → ℕ → ℕ → Type 0
Extreme [] a b = Unit {0}
Extreme (v ∷ vs) a b = a ≡ b

-- each field, from the samples alone
pub record Shows (vs : List ℕ) (d : OwdDirection) : Type 0 where
  pub count : d.quantiles.count ≡ length vs
  pub min : Extreme vs (order true d.quantiles.min) (least (ordered vs))
  pub max : Extreme vs (order true d.quantiles.max) (greatest (ordered vs))
  pub sum : d.sum ≡ sum_of (total vs)
  pub signed : d.quantiles.signed ≡ true

-- a sample of the one direction or the other
pub record Call : Type 0 where
  pub reverse : Bool
  pub value : ℕ

-- both directions and their slice
pub record Kept : Type 0 where
  pub state : Directions
  pub slice : List ℕ

-- what calls leave, one after the other from fresh, refused ones included, in any slice
unfoldable pub played : List ℕ → List Call → Kept
played slice [] = record { state = fresh_both; slice = slice }
played slice (c ∷ cs) = let k = played slice cs in let o = record_in k.state k.slice c.reverse c.value in record { state = o.state; slice = o.slice }

-- a call is of this direction
abbrev pub is_of : Bool → Bool → Bool
is_of false reverse = not reverse
is_of true reverse = reverse

-- the samples of a direction whose calls answered true
unfoldable pub served : Bool → List ℕ → List Call → List ℕ
served way slice [] = []
served way slice (c ∷ cs) =
    let k = played slice cs in
    cond (is_of way c.reverse && (record_in k.state k.slice c.reverse c.value).answer) (c.value ∷ served way slice cs) (served way slice cs)
