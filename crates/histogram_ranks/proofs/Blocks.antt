-- The blocks of a room: where they lie, and what is known of one that does not lie. Assumes nothing.
use mathlib.Core.Path.{◌≡◌, refl, sym, ◌∙◌, ap, ap₂, subst}
use mathlib.Core.Bool.{Bool, true, false, not, ◌&&◌, ◌||◌}
use mathlib.Core.List.{List}
use mathlib.Core.Logic.{⊎_elim}
use Prim.Native.Nat.{ℕ, ◌+◌, ◌-◌, ◌*◌, ◌≤◌, ◌<◌}
use native.Mathlib.Nat.{le_of_eq, le_trans, min-le_left, min-le_right}
use native.Mathlib.Omega.{arith}
use borrow.Author.Tests.{eqb-true}
use lib.Dec.{eqb}
use lib.ListN.{length, get_or, take, drop, length-drop, length-take}
use lib.Seq.{take_all, take-take, take-add, drop_at, drop-drop, length-take-le}
use Rattle.buckets.specs.Signed.{bucket_count}
use Rattle.buckets.proofs.SignedFacts.{pick-below, pick-above}
use Rattle.buckets.proofs.Facts.{lt_or_ge}
use Rattle.histogram.specs.Histogram.{total, bucket_at, left_at}
use Rattle.histogram.proofs.Sums.{at-below}
use Rattle.histogram.proofs.Blocks.{left_below}
use Rattle.quantiles.specs.declared.Quantiles.{Quantiles}
use Rattle.quantile_room.specs.Room.{block_count, room_size, buckets, totals}
use Rattle.quantile_room.proofs.Parts.{whole_part, bucket_word, total-word}
use Rattle.quantile_room.proofs.Places.{parts_in}
use Rattle.histogram_ranks.specs.Ranks.{block_at, block, lies, bucket_of}
use Rattle.histogram_ranks.specs.Blocks.{block_end}

-- a block begins among the buckets
pub block_from : (s : Bool) (k : ℕ) → k < block_count s → 4096 + 128 * k < 4096 + bucket_count s
block_from true k h = omega arith
block_from false k h = omega arith

pub few_below : (s : Bool) (k : ℕ) → k < block_count s → k < 115
few_below true k h = omega arith
few_below false k h = omega arith

-- there are as many totals as blocks, and not many
pub totals-length : (s : Bool) (room : List ℕ) → length room ≡ room_size s → length (totals s room) ≡ block_count s
totals-length s room h = length-drop (4096 + bucket_count s) room ∙ rest (length room) (bucket_count s) (block_count s) h
  where
    rest : (n m k : ℕ) → n ≡ 4096 + m + k → n - (4096 + m) ≡ k
    rest n m k h = omega arith

pub few_blocks : (s : Bool) → block_count s ≤ 65536
few_blocks true = omega arith
few_blocks false = omega arith

-- the totals as they are lent
pub lent-totals : (s : Bool) (room : List ℕ) (start : ℕ) → start ≡ 4096 + bucket_count s → take (length room - start) (drop start room) ≡ totals s room
lent-totals s room start e = whole_part start room ∙ ap (λ (n : ℕ). drop n room) e

-- a block as it is lent
module _ (s : Bool) (room : List ℕ) (k end : ℕ) (h : length room ≡ room_size s) (below : k < block_count s) (is : end ≡ block_end s (4096 + 128 * k)) where
  -- the buckets from the block on
  behind : drop (128 * k) (buckets s room) ≡ take (bucket_count s - 128 * k) (drop (4096 + 128 * k) room)
  behind =
      ap (λ (n : ℕ). drop (128 * k) (take n (drop 4096 room))) (parted (bucket_count s) (128 * k) (block_from s k below))
      ∙ ap (drop (128 * k)) (take-add (128 * k) (bucket_count s - 128 * k) (drop 4096 room))
      ∙ drop_at (take (128 * k) (drop 4096 room)) (take (bucket_count s - 128 * k) (drop (128 * k) (drop 4096 room))) (128 * k)
      (length-take-le (128 * k) (drop 4096 room) (subst (λ (n : ℕ). 128 * k ≤ n) (sym (length-drop 4096 room)) (inside (length room) (bucket_count s) (block_count s) h (block_from s k below))))
      ∙ ap (take (bucket_count s - 128 * k)) (drop-drop (128 * k) 4096 room)
    where
      parted : (n m : ℕ) → 4096 + m < 4096 + n → n ≡ m + (n - m)
      parted n m l = omega arith

      inside : (r n b : ℕ) → r ≡ 4096 + n + b → 4096 + 128 * k < 4096 + n → 128 * k ≤ r - 4096
      inside r n b e l = omega arith

  pub lent-block : take (end - (4096 + 128 * k)) (drop (4096 + 128 * k) room) ≡ block s room k
  lent-block = ⊎_elim whole short (lt_or_ge (4096 + 128 * k + 128) (4096 + bucket_count s))
    where
      whole : 4096 + 128 * k + 128 < 4096 + bucket_count s → take (end - (4096 + 128 * k)) (drop (4096 + 128 * k) room) ≡ block s room k
      whole l =
          ap (λ (n : ℕ). take (n - (4096 + 128 * k)) (drop (4096 + 128 * k) room)) (is ∙ pick-below (4096 + 128 * k + 128) (4096 + bucket_count s) (4096 + 128 * k + 128) (4096 + bucket_count s) l)
          ∙ ap (λ (n : ℕ). take n (drop (4096 + 128 * k) room)) (plain (4096 + 128 * k))
          ∙ sym (ap (take 128) behind ∙ take-take 128 (bucket_count s - 128 * k) (drop (4096 + 128 * k) room) (long (bucket_count s) l))
        where
          plain : (f : ℕ) → f + 128 - f ≡ 128
          plain f = omega arith

          long : (n : ℕ) → 4096 + 128 * k + 128 < 4096 + n → 128 ≤ n - 128 * k
          long n l = omega arith

      short : 4096 + bucket_count s ≤ 4096 + 128 * k + 128 → take (end - (4096 + 128 * k)) (drop (4096 + 128 * k) room) ≡ block s room k
      short l =
          ap (λ (n : ℕ). take (n - (4096 + 128 * k)) (drop (4096 + 128 * k) room)) (is ∙ pick-above (4096 + 128 * k + 128) (4096 + bucket_count s) (4096 + 128 * k + 128) (4096 + bucket_count s) l)
          ∙ ap (λ (n : ℕ). take n (drop (4096 + 128 * k) room)) (plain (bucket_count s))
          ∙ sym
          (ap (take 128) behind
          ∙ take_all 128 (take (bucket_count s - 128 * k) (drop (4096 + 128 * k) room)) (le_trans (le_of_eq (length-take (bucket_count s - 128 * k) (drop (4096 + 128 * k) room))) (le_trans (min-le_left (bucket_count s - 128 * k) (length (drop (4096 + 128 * k) room))) (few (bucket_count s) l))))
        where
          plain : (n : ℕ) → 4096 + n - (4096 + 128 * k) ≡ n - 128 * k
          plain n = omega arith

          few : (n : ℕ) → 4096 + n ≤ 4096 + 128 * k + 128 → n - 128 * k ≤ 128
          few n l = omega arith

-- a block has 128 buckets at most
pub block-length : (s : Bool) (room : List ℕ) (k : ℕ) → length (block s room k) ≤ 65536
block-length s room k =
    le_trans (le_of_eq (length-take 128 (drop (128 * k) (buckets s room)))) (le_trans (min-le_left 128 (length (drop (128 * k) (buckets s room)))) few)
  where
    few : 128 ≤ 65536
    few = omega arith

-- a bucket of a block is one of all
pub bucket_below : (s : Bool) (room : List ℕ) (k place : ℕ) → k < block_count s → place < length (block s room k) → 128 * k + place < bucket_count s
bucket_below s room k place below l =
    inside (length (block s room k)) (length (drop (128 * k) (buckets s room))) (length (buckets s room)) (bucket_count s)
    (le_trans (le_of_eq (length-take 128 (drop (128 * k) (buckets s room)))) (min-le_right 128 (length (drop (128 * k) (buckets s room))))) (length-drop (128 * k) (buckets s room))
    (le_trans (le_of_eq (length-take (bucket_count s) (drop 4096 room))) (min-le_left (bucket_count s) (length (drop 4096 room)))) l
  where
    inside : (x y z n : ℕ) → x ≤ y → y ≡ z - 128 * k → z ≤ n → place < x → 128 * k + place < n
    inside x y z n a b c d = omega arith

-- a block's total and the signed bucket 14,592 as they are read
pub block-word : (s : Bool) (room : List ℕ) (k start : ℕ) → length room ≡ room_size s → start ≡ 4096 + bucket_count s → get_or (totals s room) k 0 ≡ get_or room (start + k) 0
block-word s room k start h e = total-word 4096 (bucket_count s) room (parts_in s (length room) h) k ∙ ap (λ (n : ℕ). get_or room (n + k) 0) (sym e)

pub last_word : (s : Bool) (room : List ℕ) → s ≡ true → length room ≡ room_size s → get_or (buckets s room) 14592 0 ≡ get_or room 18688 0
last_word true room e h = bucket_word 4096 14593 room (omega arith) 14592 (omega arith)
last_word false room e h = absurd (no e)
  where
    no : ◌≡◌ {A = Bool} false true → ⊥
    no e = let z : ◌≡◌ {A = ℕ} 0 1 = cc in omega arith

both_true : (a b : Bool) → a && b ≡ true → a ≡ true
both_true true b e = refl
both_true false b e = e

pub last_in : (s : Bool) (k n : ℕ) → s && eqb k 114 ≡ true → n ≡ room_size s → 18688 < n
last_in true k n e h = omega arith
last_in false k n e h = absurd (no e)
  where
    no : ◌≡◌ {A = Bool} false true → ⊥
    no e = let z : ◌≡◌ {A = ℕ} 0 1 = cc in omega arith

or_false : (b : Bool) → b ≡ b || false
or_false true = refl
or_false false = refl

-- a block that lies, by its tests
module _ (s : Bool) (room : List ℕ) (k : ℕ) (whole : Bool) (is : whole ≡ eqb (total (block s room k)) (get_or (totals s room) k 0)) where
  pub lies-last : s && eqb k 114 ≡ true → length room ≡ room_size s → not whole || not (eqb (get_or room 18688 0) 0) ≡ lies s room k
  unfolding lies
  lies-last e h =
      ap₂ (λ (w : Bool) (x : ℕ). not w || not (eqb x 0)) is (sym (last_word s room (both_true s (eqb k 114) e) h))
      ∙ ap (λ (t : Bool). not (eqb (total (block s room k)) (get_or (totals s room) k 0)) || (t && not (eqb (get_or (buckets s room) 14592 0) 0))) (sym e)

  pub lies-other : s && eqb k 114 ≡ false → not whole ≡ lies s room k
  unfolding lies
  lies-other e =
      or_false (not whole) ∙ ap (λ (w : Bool). not w || false) is
      ∙ ap (λ (t : Bool). not (eqb (total (block s room k)) (get_or (totals s room) k 0)) || (t && not (eqb (get_or (buckets s room) 14592 0) 0))) (sym e)

-- the buckets of a block that does not lie add up to its total
pub true_block : (s : Bool) (room : List ℕ) (k : ℕ) → lies s room k ≡ false → total (block s room k) ≡ get_or (totals s room) k 0
unfolding lies
true_block s room k e = eqb-true (total (block s room k)) (get_or (totals s room) k 0) (sound (eqb (total (block s room k)) (get_or (totals s room) k 0)) ((s && eqb k 114) && not (eqb (get_or (buckets s room) 14592 0) 0)) e)
  where
    sound : (a b : Bool) → not a || b ≡ false → a ≡ true
    sound true b e = refl
    sound false b e = sym e

-- the block of a rank below the count
pub block-below : (q : Quantiles) (room : List ℕ) (r k : ℕ) → length room ≡ room_size q.signed → total (totals q.signed room) ≡ q.count → r < q.count → k ≡ block_at q room r → k < block_count q.signed
block-below q room r k h t l e =
    subst (λ (x : ℕ). x < block_count q.signed) (sym e)
    (subst (λ (n : ℕ). block_at q room r < n) (totals-length q.signed room h) (at-below (totals q.signed room) r (subst (λ (n : ℕ). r < n) (sym t) l)))

-- the bucket of a rank whose block does not lie is one of the block
pub bucket_in : (q : Quantiles) (room : List ℕ) (r k left place : ℕ) → total (totals q.signed room) ≡ q.count → r < q.count → lies q.signed room (block_at q room r) ≡ false
    → k ≡ block_at q room r → left ≡ left_at (totals q.signed room) r → place ≡ bucket_at (block q.signed room k) left → place < length (block q.signed room k)
bucket_in q room r k left place t l n ek el ep =
    subst (λ (x : ℕ). x < length (block q.signed room k)) (sym ep)
    (at-below (block q.signed room k) left
    (subst (λ (x : ℕ). left < total (block q.signed room x)) (sym ek)
    (subst (λ (x : ℕ). x < total (block q.signed room (block_at q room r))) (sym el)
    (subst (λ (x : ℕ). left_at (totals q.signed room) r < x) (sym (true_block q.signed room (block_at q room r) n)) (left_below (totals q.signed room) r (subst (λ (x : ℕ). r < x) (sym t) l))))))

-- the place that the code adds up is the definition's
pub bucket_is : (q : Quantiles) (room : List ℕ) (r k left place : ℕ) → k ≡ block_at q room r → left ≡ left_at (totals q.signed room) r → place ≡ bucket_at (block q.signed room k) left → 128 * k + place ≡ bucket_of q room r
bucket_is q room r k left place ek el ep =
    ap (λ (x : ℕ). 128 * k + x) (ep ∙ ap (bucket_at (block q.signed room k)) el) ∙ ap (λ (x : ℕ). 128 * x + bucket_at (block q.signed room x) (left_at (totals q.signed room) r)) ek
