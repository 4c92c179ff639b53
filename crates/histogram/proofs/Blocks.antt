-- The bucket of a rank by totals of blocks: the block by the totals, then the bucket inside the block. Over any number of buckets and of
-- blocks. Assumes nothing.
use mathlib.Core.Path.{◌≡◌, refl, sym, ◌∙◌, ap, subst}
use mathlib.Core.Bool.{Bool, true, false}
use mathlib.Core.List.{List, [], ◌∷◌}
use mathlib.Core.Logic.{◌⊎◌, inl, inr, ⊎_elim}
use Prim.Native.Nat.{ℕ, zero, suc, ◌+◌, ◌-◌, ◌*◌, ◌≤◌, ◌<◌}
use native.Mathlib.Omega.{arith}
use native.Mathlib.Nat.{not-suc-le-zero, zero-add}
use borrow.Author.Tests.{ltb-true, ltb-false}
use lib.ListN.{length, get_or, take, drop}
use lib.Seq.{take-add}
use lib.Dec.{ltb}
use Rattle.histogram.specs.Histogram.{total, bucket_at, left_at}
use Rattle.histogram.proofs.Sums.{total-append, total-next, at_first, at_later, at-past, at-below, left-first, left_later}

below_or_not : (r n : ℕ) → (r < n) ⊎ (n ≤ r)
below_or_not r n = by (ltb r n) refl
  where
    by : (t : Bool) → ltb r n ≡ t → (r < n) ⊎ (n ≤ r)
    by true e = inl (ltb-true r n e)
    by false e = inr (ltb-false r n e)

at_suc : (n : ℕ) (ns : List ℕ) (r : ℕ) → n ≤ r → bucket_at (n ∷ ns) r ≡ suc (bucket_at ns (r - n))
at_suc n ns r l = at_later n ns r l ∙ one_more (bucket_at ns (r - n))
  where
    one_more : (x : ℕ) → 1 + x ≡ suc x
    one_more x = omega arith

-- what is left of a rank, with what the buckets before its own have, is the rank
pub left_is : (b : List ℕ) (r : ℕ) → total (take (bucket_at b r) b) + left_at b r ≡ r
unfolding total bucket_at left_at
left_is [] r = zero-add r
left_is (n ∷ ns) r = ⊎_elim first (later (left_is ns (r - n))) (below_or_not r n)
  where
    first : r < n → total (take (bucket_at (n ∷ ns) r) (n ∷ ns)) + left_at (n ∷ ns) r ≡ r
    first l =
        ap (λ (k : ℕ). total (take k (n ∷ ns)) + left_at (n ∷ ns) r) (at_first n ns r l) ∙ ap (λ (x : ℕ). 0 + x) (left-first n ns r l) ∙ zero-add r

    later : total (take (bucket_at ns (r - n)) ns) + left_at ns (r - n) ≡ r - n → n ≤ r → total (take (bucket_at (n ∷ ns) r) (n ∷ ns)) + left_at (n ∷ ns) r ≡ r
    later rest l =
        ap (λ (k : ℕ). total (take k (n ∷ ns)) + left_at (n ∷ ns) r) (at_suc n ns r l) ∙ ap (λ (x : ℕ). total (take (suc (bucket_at ns (r - n))) (n ∷ ns)) + x) (left_later n ns r l)
        ∙ sum (total (take (bucket_at ns (r - n)) ns)) (left_at ns (r - n)) rest
      where
        sum : (t x : ℕ) → t + x ≡ r - n → n + t + x ≡ r
        sum t x e = omega arith

-- of a rank below the sum less is left than its bucket has
pub left_below : (b : List ℕ) (r : ℕ) → r < total b → left_at b r < get_or b (bucket_at b r) 0
unfolding total
left_below [] r h = absurd (not-suc-le-zero h)
left_below (n ∷ ns) r h = ⊎_elim first (later (λ l. left_below ns (r - n) (omega arith))) (below_or_not r n)
  where
    first : r < n → left_at (n ∷ ns) r < get_or (n ∷ ns) (bucket_at (n ∷ ns) r) 0
    first l =
        subst (λ (k : ℕ). left_at (n ∷ ns) r < get_or (n ∷ ns) k 0) (sym (at_first n ns r l)) (subst (λ (x : ℕ). x < n) (sym (left-first n ns r l)) l)

    later : (n ≤ r → left_at ns (r - n) < get_or ns (bucket_at ns (r - n)) 0) → n ≤ r → left_at (n ∷ ns) r < get_or (n ∷ ns) (bucket_at (n ∷ ns) r) 0
    later rest l =
        subst (λ (k : ℕ). left_at (n ∷ ns) r < get_or (n ∷ ns) k 0) (sym (at_suc n ns r l))
        (subst (λ (x : ℕ). x < get_or ns (bucket_at ns (r - n)) 0) (sym (left_later n ns r l)) (rest l))

-- a rank that the first k buckets hold is found among them
pub at-within : (k : ℕ) (b : List ℕ) (r : ℕ) → r < total (take k b) → bucket_at b r ≡ bucket_at (take k b) r
unfolding total
at-within zero b r h = absurd (not-suc-le-zero h)
at-within (suc k) [] r h = refl
at-within (suc k) (n ∷ ns) r h = ⊎_elim first (later (λ l. at-within k ns (r - n) (omega arith))) (below_or_not r n)
  where
    first : r < n → bucket_at (n ∷ ns) r ≡ bucket_at (n ∷ take k ns) r
    first l = at_first n ns r l ∙ sym (at_first n (take k ns) r l)

    later : (n ≤ r → bucket_at ns (r - n) ≡ bucket_at (take k ns) (r - n)) → n ≤ r → bucket_at (n ∷ ns) r ≡ bucket_at (n ∷ take k ns) r
    later rest l = at_later n ns r l ∙ ap (λ (x : ℕ). 1 + x) (rest l) ∙ sym (at_later n (take k ns) r l)

-- the buckets b and the totals t of their blocks, each of 128 buckets but the last: the first k totals are the sum of the first k blocks
module _ (b t : List ℕ) (cover : length b ≤ 128 * length t) (short : 128 * length t ≤ length b + 127) (sums : (k : ℕ) → k ≤ length t → total (take k t) ≡ total (take (128 * k) b)) where
  -- the buckets of a block add up to its total
  pub block-total : (k : ℕ) → k < length t → total (take 128 (drop (128 * k) b)) ≡ get_or t k 0
  block-total k h =
      part (total (take (128 * k) b)) (total (take 128 (drop (128 * k) b))) (total (take k t)) (get_or t k 0) (sums k (omega arith))
      (sym (total-append (take (128 * k) b) (take 128 (drop (128 * k) b))) ∙ ap total (sym (take-add (128 * k) 128 b)) ∙ ap (λ (n : ℕ). total (take n b)) (next k) ∙ sym (sums (k + 1) (omega arith)) ∙ total-next k t h)
    where
      next : (k : ℕ) → 128 * k + 128 ≡ 128 * (k + 1)
      next k = omega arith

      part : (s x s' y : ℕ) → s' ≡ s → s + x ≡ s' + y → x ≡ y
      part s x s' y e f = omega arith

  -- the totals add up to what the buckets do
  pub totals-total : total t ≡ total b
  totals-total =
      ap total (sym (whole t)) ∙ sums (length t) (omega arith) ∙ ap total (all (128 * length t) b cover)
    where
      whole : (l : List ℕ) → take (length l) l ≡ l
      whole [] = refl
      whole (x ∷ xs) = ap (λ (l : List ℕ). x ∷ l) (whole xs)

      all : (n : ℕ) (l : List ℕ) → length l ≤ n → take n l ≡ l
      all zero [] h = refl
      all zero (x ∷ xs) h = absurd (not-suc-le-zero h)
      all (suc n) [] h = refl
      all (suc n) (x ∷ xs) h = ap (λ (l : List ℕ). x ∷ l) (all n xs (omega arith))

  -- THE LAW of the search: the block by the totals, then the bucket in it, is the bucket of the full walk
  pub by_blocks : (r : ℕ) → r < total t → bucket_at b r ≡ 128 * bucket_at t r + bucket_at (take 128 (drop (128 * bucket_at t r) b)) (left_at t r)
  by_blocks r h = at (bucket_at t r) (at-below t r h) (left_is t r) (left_below t r h)
    where
      minus : (x y l : ℕ) → y ≡ x → y + l ≡ r → r - x ≡ l
      minus x y l e f = omega arith

      reached : (y l : ℕ) → y + l ≡ r → y ≤ r
      reached y l f = omega arith

      at : (k : ℕ) → k < length t → total (take k t) + left_at t r ≡ r → left_at t r < get_or t k 0 → bucket_at b r ≡ 128 * k + bucket_at (take 128 (drop (128 * k) b)) (left_at t r)
      at k below is less =
          at-past (128 * k) b r (omega arith) (subst (λ (x : ℕ). x ≤ r) (sums k (omega arith)) (reached (total (take k t)) (left_at t r) is))
          ∙ ap (λ (x : ℕ). 128 * k + bucket_at (drop (128 * k) b) x) (minus (total (take (128 * k) b)) (total (take k t)) (left_at t r) (sums k (omega arith)) is)
          ∙ ap (λ (x : ℕ). 128 * k + x) (at-within 128 (drop (128 * k) b) (left_at t r) (subst (λ (x : ℕ). left_at t r < x) (sym (block-total k below)) less))
