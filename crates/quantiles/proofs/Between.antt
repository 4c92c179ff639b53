-- A sample between the least and the greatest: the state is in order, and both stay. Assumes nothing.
use mathlib.Core.Path.{◌≡◌, refl, sym, ap, subst}
use mathlib.Core.Bool.{Bool, true, false, ◌&&◌}
use mathlib.Core.List.{List}
use Prim.Native.Nat.{ℕ, ◌+◌, ◌-◌, ◌^◌, ◌≤◌, ◌<◌}
use native.Mathlib.Nat.{le_trans}
use native.Mathlib.Omega.{arith}
use borrow.Author.Tests.{ltb-true, leb-true, le-ltb}
use lib.Dec.{ltb, leb}
use lib.ListN.{length, set}
use Rattle.buckets.specs.Buckets.{pick}
use Rattle.buckets.specs.Signed.{order}
use Rattle.quantiles.specs.declared.Quantiles.{Quantiles}
use Rattle.quantile_room.specs.Room.{room_size}
use Rattle.quantiles.specs.State.{crossed}
use Rattle.quantiles.specs.Record.{taken, grown, recorded}
use Rattle.quantiles.specs.Between.{between, one_more}
use Rattle.quantiles.proofs.Ways.{crossed-by, grown_later, way_exact, way_later, later_room, in_bucket, in_block}

left_true : (a b : Bool) → a && b ≡ true → a ≡ true
left_true true b e = refl
left_true false b e = e

right_true : (a b : Bool) → a && b ≡ true → b ≡ true
right_true true b e = e
right_true false b e = absurd (none e)
  where
    none : false ≡ true → ⊥
    none e = subst (λ (t : Bool). Only t) e refl
      where
        Only : Bool → Type 0
        Only true = ⊥
        Only false = false ≡ false

-- a number within two bounds, by one test of both
pub within : (low n high : ℕ) → ltb low n && ltb n high ≡ true → (low < n) × (n < high)
within low n high e = (ltb-true low n (left_true (ltb low n) (ltb n high) e), ltb-true n high (right_true (ltb low n) (ltb n high) e))

module _ (q : Quantiles) (v : ℕ) (is : between q v ≡ true) (some : 0 < q.count) where
  above-least : order q.signed q.min ≤ order q.signed v
  above-least = leb-true (order q.signed q.min) (order q.signed v) (left_true (leb (order q.signed q.min) (order q.signed v)) (leb (order q.signed v) (order q.signed q.max)) is)

  below-most : order q.signed v ≤ order q.signed q.max
  below-most = leb-true (order q.signed v) (order q.signed q.max) (right_true (leb (order q.signed q.min) (order q.signed v)) (leb (order q.signed v) (order q.signed q.max)) is)

  in_order : crossed q ≡ false
  in_order = crossed-by q false some (le-ltb (order q.signed q.max) (order q.signed q.min) (le_trans above-least below-most))

  both_stay : one_more q ≡ grown q v
  both_stay =
      grown_later q v q.min q.max (λ e. none q.count some e)
      (sym (ap (λ (t : Bool). pick t v q.min) (le-ltb (order q.signed v) (order q.signed q.min) above-least)))
      (sym (ap (λ (t : Bool). pick t v q.max) (le-ltb (order q.signed q.max) (order q.signed v) below-most)))
    where
      none : (n : ℕ) → 0 < n → n ≡ 0 → ⊥
      none n h e = omega arith

  -- a sample of the exact mode
  pub between_exact : (room : List ℕ) → length room ≡ room_size q.signed → q.count < 4096 → taken (one_more q) (set room q.count v) ≡ recorded q room v
  between_exact room h l = way_exact q room v (one_more q) h in_order l both_stay

  -- a sample of a histogram
  pub between_later : (room : List ℕ) → length room ≡ room_size q.signed → 4096 < q.count → (in_bucket q room v ≡ 2 ^ 64 - 1 → ⊥) → (in_block q room v ≡ 2 ^ 64 - 1 → ⊥)
      → q.count + 1 < 2 ^ 64 → taken (one_more q) (later_room q room v) ≡ recorded q room v
  between_later room h l n m f = way_later q room v (one_more q) h in_order l n m (λ e. full q.count f e) both_stay
    where
      full : (n : ℕ) → n + 1 < 2 ^ 64 → n ≡ 2 ^ 64 - 1 → ⊥
      full n f e = omega arith
