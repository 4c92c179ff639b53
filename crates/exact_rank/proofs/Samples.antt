-- From the key that a search finds to the sample: samples are words, so no two have one key, and unsigned order is that of bias 0.
-- Assumes nothing.
use Rattle.std.proofs.Common.{◌≡◌, ℕ, zero, suc, ◌+◌, ◌-◌, ◌^◌, ◌<◌, ◌≤◌, Bool, true, false, leb, List, [], ◌∷◌, map, length, get_or, take, sym, refl, ap, ◌∙◌, suc-le-suc, le_of_suc-le-suc, not-suc-le-zero, zero-lt-suc, add-one, arith, length-take-le, get_or-take}
use Rattle.exact_rank.specs.Rank.{unsigned, choose, insert, sorted, at_rank, at_ranks}
use Rattle.sample_passes.specs.Keys.{shifted, InOrder, InReverse}
use Rattle.exact_rank.specs.Counting.{KeyOfRank}
use Rattle.exact_rank.proofs.Sorting.{length-sorted, sorted-is_counted, one_key, sorted-same, falling_is_counted}

-- every sample is a word
data Words : List ℕ → Type 0 where
  none : Words []
  more : {y : ℕ} {ys : List ℕ} → y < 2 ^ 64 → Words ys → Words (y ∷ ys)

words : (xs : List ℕ) → ((i : ℕ) → i < length xs → get_or xs i 0 < 2 ^ 64) → Words xs
words [] h = none
words (x ∷ xs) h = more (h zero (zero-lt-suc (length xs))) (words xs (λ i l. h (suc i) (suc-le-suc l)))

first-words : (count : ℕ) (xs : List ℕ) → count ≤ length xs → ((i : ℕ) → get_or xs i 0 < 2 ^ 64) → Words (take count xs)
first-words count xs l h =
    words (take count xs) (λ i m. rw (get_or-take count xs i 0 (omega (arith, m, length-take-le count xs l))) (h i))

word_at : {xs : List ℕ} → Words xs → (i : ℕ) → i < length xs → get_or xs i 0 < 2 ^ 64
word_at none i l = absurd (not-suc-le-zero l)
word_at (more h t) zero l = h
word_at (more h t) (suc i) l = word_at t i (le_of_suc-le-suc l)

choose-words : (t : Bool) {xs ys : List ℕ} → Words xs → Words ys → Words (choose t xs ys)
unfolding choose
choose-words true a b = a
choose-words false a b = b

module _ (key : ℕ → ℕ) where
  insert-words : {x : ℕ} {ys : List ℕ} → x < 2 ^ 64 → Words ys → Words (insert key x ys)
  unfolding insert
  insert-words h none = more h none
  insert-words {x} h (more {y} g t) = choose-words (leb (key x) (key y)) (more h (more g t)) (more g (insert-words h t))

  sorted-words : {xs : List ℕ} → Words xs → Words (sorted key xs)
  unfolding sorted
  sorted-words none = none
  sorted-words (more h t) = insert-words h (sorted-words t)

one_sample : (bias v w : ℕ) → v < 2 ^ 64 → w < 2 ^ 64 → shifted bias v ≡ shifted bias w → v ≡ w
one_sample bias v w h g e = omega (arith, h, g, e)

module _ (xs : List ℕ) (count : ℕ) (within : count ≤ length xs) (small : (i : ℕ) → get_or xs i 0 < 2 ^ 64) where
  -- the word whose key counting finds is the sample of that rank
  pub counted_is_sample : (bias rank v : ℕ) → rank < count → v < 2 ^ 64
      → KeyOfRank (shifted bias) (take count xs) rank (shifted bias v) → v ≡ at_rank (shifted bias) xs count rank
  unfolding at_rank
  counted_is_sample bias rank v l h found =
      let first : List ℕ = take count xs in
      let inside : rank < length first = omega (arith, l, length-take-le count xs within) in
      one_sample bias v (get_or (sorted (shifted bias) first) rank 0) h
      (word_at (sorted-words (shifted bias) (first-words count xs within small)) rank (omega (arith, inside, length-sorted (shifted bias) first)))
      (one_key (shifted bias) first rank (shifted bias v) (shifted bias (get_or (sorted (shifted bias) first) rank 0)) found
      (sorted-is_counted (shifted bias) first rank inside))

insert-unsigned : {x : ℕ} {ys : List ℕ} → x < 2 ^ 64 → Words ys → insert (shifted 0) x ys ≡ insert unsigned x ys
unfolding insert
insert-unsigned h none = refl
insert-unsigned {x} h (more {y} {ys} g t) =
    let left : shifted 0 x ≡ x = omega (arith, h) in
    let right : shifted 0 y ≡ y = omega (arith, g) in
    rw (left, right, insert-unsigned h t)

sorted-unsigned : {xs : List ℕ} → Words xs → sorted (shifted 0) xs ≡ sorted unsigned xs
unfolding sorted
sorted-unsigned none = refl
sorted-unsigned (more {y} {ys} h t) =
    rw (sorted-unsigned t) (insert-unsigned h (sorted-words unsigned t))

module _ (xs : List ℕ) (count : ℕ) (within : count ≤ length xs) (small : (i : ℕ) → get_or xs i 0 < 2 ^ 64) where
  -- at bias 0 the order is the unsigned one
  pub shifted-unsigned : (rank : ℕ) → at_rank (shifted 0) xs count rank ≡ at_rank unsigned xs count rank
  unfolding at_rank
  shifted-unsigned rank = ap (λ (ys : List ℕ). get_or ys rank 0) (sorted-unsigned (first-words count xs within small))

  map_same : {f g : ℕ → ℕ} → ((n : ℕ) → f n ≡ g n) → (ns : List ℕ) → map f ns ≡ map g ns
  map_same h [] = refl
  map_same h (n ∷ ns) = rw (h n, map_same h ns)

  pub shifted-unsigned_all : (ranks : List ℕ) → at_ranks (shifted 0) xs count ranks ≡ at_ranks unsigned xs count ranks
  unfolding at_ranks
  shifted-unsigned_all ranks = map_same shifted-unsigned ranks

-- where the samples are in order, the sample of a rank stands at its rank
pub in_order-at : (key : ℕ → ℕ) (xs : List ℕ) (count rank : ℕ) → count ≤ length xs → rank < count → InOrder key xs count
    → get_or xs rank 0 ≡ at_rank key xs count rank
unfolding at_rank
in_order-at key xs count rank within l h =
    let first : List ℕ = take count xs in
    let long : length first ≡ count = length-take-le count xs within in
    let rising : (i : ℕ) → suc i < length first → key (get_or first i 0) ≤ key (get_or first (suc i) 0) =
    (λ i m.
    let a : get_or first i 0 ≡ get_or xs i 0 = get_or-take count xs i 0 (omega (arith, m, long)) in
    let b : get_or first (suc i) 0 ≡ get_or xs (suc i) 0 = get_or-take count xs (suc i) 0 (omega (arith, m, long)) in
    rw (a, b) (rw (add-one i) at (h i (omega (arith, m, long)))))
    in sym (rw (sorted-same key first rising) (get_or-take count xs rank 0 l))

-- where the samples are in reverse order, the sample of a rank stands at the rank counted from the last
pub in_reverse-at : (bias : ℕ) (xs : List ℕ) (count rank : ℕ) → count ≤ length xs → ((i : ℕ) → get_or xs i 0 < 2 ^ 64) → rank < count
    → InReverse (shifted bias) xs count → get_or xs (count - 1 - rank) 0 ≡ at_rank (shifted bias) xs count rank
in_reverse-at bias xs count rank within small l h =
    let first : List ℕ = take count xs in
    let long : length first ≡ count = length-take-le count xs within in
    let falling : (i : ℕ) → suc i < length first → shifted bias (get_or first (suc i) 0) ≤ shifted bias (get_or first i 0) =
    (λ i m.
    let a : get_or first i 0 ≡ get_or xs i 0 = get_or-take count xs i 0 (omega (arith, m, long)) in
    let b : get_or first (suc i) 0 ≡ get_or xs (suc i) 0 = get_or-take count xs (suc i) 0 (omega (arith, m, long)) in
    rw (a, b) (rw (add-one i) at (h i (omega (arith, m, long)))))
    in
    let at : get_or first (length first - 1 - rank) 0 ≡ get_or xs (count - 1 - rank) 0 =
    rw long (get_or-take count xs (count - 1 - rank) 0 (omega (arith, l)))
    in
    counted_is_sample xs count within small bias rank (get_or xs (count - 1 - rank) 0) l (small (count - 1 - rank))
    (rw at at (falling_is_counted (shifted bias) first falling rank (omega (arith, l, long))))
