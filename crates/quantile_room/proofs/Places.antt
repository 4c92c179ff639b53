-- The words of a room that the code reads for a bucket: its own and that of its block, and whether they are full. Assumes nothing.
use mathlib.Core.Path.{◌≡◌, refl, sym, ◌∙◌, ap, subst}
use mathlib.Core.Bool.{Bool, true, false, ◌||◌}
use mathlib.Core.List.{List}
use Prim.Native.Nat.{ℕ, ◌+◌, ◌-◌, ◌/◌, ◌^◌, ◌≤◌, ◌<◌}
use native.Mathlib.Omega.{arith}
use borrow.Author.Tests.{eq-eqb, ne_eqb, eqb-false}
use lib.Dec.{eqb}
use lib.ListN.{length, get_or}
use Rattle.buckets.specs.Signed.{bucket_count}
use Rattle.quantile_room.specs.Room.{block_count, room_size, buckets, totals, full_at}
use Rattle.quantile_room.proofs.Parts.{bucket_word, total-word}

-- a bucket of the room has a block
pub block-below : (s : Bool) (i : ℕ) → i < bucket_count s → i / 128 < block_count s
block-below true i h = omega arith
block-below false i h = omega arith

-- the parts of a room of the right size lie in it, and so does the total of a block
pub parts_in : (s : Bool) (n : ℕ) → n ≡ room_size s → 4096 + bucket_count s ≤ n
parts_in s n h = omega arith

pub total_in : (s : Bool) (place start n : ℕ) → n ≡ room_size s → start ≡ 4096 + bucket_count s → place < bucket_count s → start + place / 128 < n
total_in s place start n h e l = omega (arith, block-below s place l)

-- the words that the code reads are those of the bucket and of its block
module _ (s : Bool) (room : List ℕ) (place start : ℕ) (h : length room ≡ room_size s) (below : place < bucket_count s) (at : start ≡ 4096 + bucket_count s) where
  pub bucket_is : get_or (buckets s room) place 0 ≡ get_or room (4096 + place) 0
  bucket_is = bucket_word 4096 (bucket_count s) room (parts_in s (length room) h) place below

  pub total_is : get_or (totals s room) (place / 128) 0 ≡ get_or room (start + place / 128) 0
  total_is = total-word 4096 (bucket_count s) room (parts_in s (length room) h) (place / 128) ∙ ap (λ (k : ℕ). get_or room (k + place / 128) 0) (sym at)

  -- what is full, by the words that are read
  pub bucket_full : get_or room (4096 + place) 0 ≡ 2 ^ 64 - 1 → true ≡ full_at s room place
  bucket_full e =
      sym (ap (λ (t : Bool). t || eqb (get_or (totals s room) (place / 128) 0) (2 ^ 64 - 1)) (eq-eqb (get_or (buckets s room) place 0) (2 ^ 64 - 1) (bucket_is ∙ e)))

  pub block-full : (get_or room (4096 + place) 0 ≡ 2 ^ 64 - 1 → ⊥) → eqb (get_or room (start + place / 128) 0) (2 ^ 64 - 1) ≡ full_at s room place
  block-full n =
      sym
      (ap (λ (t : Bool). t || eqb (get_or (totals s room) (place / 128) 0) (2 ^ 64 - 1)) (ne_eqb (get_or (buckets s room) place 0) (2 ^ 64 - 1) (λ e. n (sym bucket_is ∙ e)))
      ∙ ap (λ (x : ℕ). eqb x (2 ^ 64 - 1)) total_is)

or_left : (a b : Bool) → (a || b) ≡ false → a ≡ false
or_left true b e = e
or_left false b e = refl

or_right : (a b : Bool) → (a || b) ≡ false → b ≡ false
or_right true b e = absurd (none e)
  where
    none : true ≡ false → ⊥
    none e = subst (λ (t : Bool). Only t) e refl
      where
        Only : Bool → Type 0
        Only true = true ≡ true
        Only false = ⊥
or_right false b e = e

-- where neither is full, each has room for one more
module _ (s : Bool) (room : List ℕ) (place : ℕ) (left : full_at s room place ≡ false) where
  pub bucket_left : get_or (buckets s room) place 0 ≡ 2 ^ 64 - 1 → ⊥
  bucket_left = eqb-false (get_or (buckets s room) place 0) (2 ^ 64 - 1) (or_left (eqb (get_or (buckets s room) place 0) (2 ^ 64 - 1)) (eqb (get_or (totals s room) (place / 128) 0) (2 ^ 64 - 1)) left)

  pub block-left : get_or (totals s room) (place / 128) 0 ≡ 2 ^ 64 - 1 → ⊥
  block-left = eqb-false (get_or (totals s room) (place / 128) 0) (2 ^ 64 - 1) (or_right (eqb (get_or (buckets s room) place 0) (2 ^ 64 - 1)) (eqb (get_or (totals s room) (place / 128) 0) (2 ^ 64 - 1)) left)

-- two counts that are not full
pub neither_full : (s : Bool) (room : List ℕ) (place : ℕ) → get_or (buckets s room) place 0 + 1 < 2 ^ 64 → get_or (totals s room) (place / 128) 0 + 1 < 2 ^ 64 → full_at s room place ≡ false
neither_full s room place b t =
    ap (λ (u : Bool). u || eqb (get_or (totals s room) (place / 128) 0) (2 ^ 64 - 1)) (ne_eqb (get_or (buckets s room) place 0) (2 ^ 64 - 1) (below _ b))
    ∙ ne_eqb (get_or (totals s room) (place / 128) 0) (2 ^ 64 - 1) (below _ t)
  where
    below : (x : ℕ) → x + 1 < 2 ^ 64 → x ≡ 2 ^ 64 - 1 → ⊥
    below x h e = omega arith

-- a count that is not full has room for one more
pub up : (x y : ℕ) → x ≡ y → y < 2 ^ 64 → (x ≡ 2 ^ 64 - 1 → ⊥) → y + 1 < 2 ^ 64
up x y e l n = omega arith
