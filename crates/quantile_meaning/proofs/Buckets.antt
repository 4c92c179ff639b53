-- The buckets that count a list of samples: how many lie below a bucket, and which bucket a rank has. Assumes nothing.
use mathlib.Core.Path.{◌≡◌, refl, sym, ◌∙◌, ap, subst}
use mathlib.Core.Bool.{Bool, true, false}
use mathlib.Core.List.{List, [], ◌∷◌}
use mathlib.Core.Logic.{⊎_elim}
use Prim.Native.Nat.{ℕ, zero, suc, ◌+◌, ◌-◌, ◌^◌, ◌≤◌, ◌<◌}
use native.Mathlib.Nat.{le_refl, le_trans, le_of_eq, lt_of_lt_of_le, add-zero, zero-add, add_assoc, le_of_suc-le-suc, not-suc-le-zero, lt_of_not-le, not-le_of_lt}
use native.Mathlib.Omega.{arith}
use lib.Dec.{ltb, leb, leb-suc-suc}
use lib.ListN.{length, get_or, take, drop, replicate, length-set, length-replicate}
use lib.Seq.{drop-cons}
use Rattle.buckets.specs.Signed.{bucket_count, order, index_of}
use Rattle.buckets.proofs.Facts.{lt_or_ge}
use Rattle.buckets.proofs.SignedFacts.{index_of-below, index_of_monotone}
use Rattle.exact_rank.specs.Rank.{choose, insert, sorted}
use Rattle.exact_rank.specs.Counting.{one_if, below, KeyOfRank}
use Rattle.exact_rank.proofs.Counting.{one_below, none_below}
use Rattle.histogram.specs.Histogram.{total, bucket_at, bumped}
use Rattle.histogram.proofs.Sums.{total-next, at-past, at_first}
use Rattle.quantiles.specs.Record.{tally, filled, filled_buckets}
use Rattle.quantile_meaning.specs.Words.{Words, none, more}

-- one sample more in a bucket is one more below every later bucket
bumped-total : (b : List ℕ) (j i : ℕ) → j < length b → total (take i (bumped b j)) ≡ total (take i b) + one_if (ltb j i)
unfolding total
bumped-total [] j i h = absurd (not-suc-le-zero h)
bumped-total (n ∷ ns) j zero h = sym (ap (λ (x : ℕ). 0 + x) (none_below j zero (omega arith)))
bumped-total (n ∷ ns) zero (suc i) h = turned n (total (take i ns)) ∙ ap (λ (x : ℕ). n + total (take i ns) + x) (sym (one_below zero (suc i) (omega arith)))
  where
    turned : (n t : ℕ) → n + 1 + t ≡ n + t + 1
    turned n t = omega arith
bumped-total (n ∷ ns) (suc j) (suc i) h =
    ap (λ (x : ℕ). n + x) (bumped-total ns j i (le_of_suc-le-suc h)) ∙ sym (add_assoc n (total (take i ns)) (one_if (ltb j i)))
    ∙ ap (λ (t : Bool). n + total (take i ns) + one_if t) (sym (leb-suc-suc (suc j) i))

-- the first i counts have the samples whose place is below i
tally-total : (place : ℕ → ℕ) (n : ℕ) (vs b : List ℕ) (i : ℕ) → ((v : ℕ) → v < 2 ^ 64 → place v < n) → Words vs → length b ≡ n → total (take i (tally place vs b)) ≡ total (take i b) + below place i vs
unfolding tally below
tally-total place n [] b i inside w l = sym (add-zero (total (take i b)))
tally-total place n (v ∷ vs) b i inside (more h w) l =
    tally-total place n vs (bumped b (place v)) i inside w (length-set b (place v) (get_or b (place v) 0 + 1) ∙ l)
    ∙ ap (λ (x : ℕ). x + below place i vs) (bumped-total b (place v) i (subst (λ (m : ℕ). place v < m) (sym l) (inside v h)))
    ∙ add_assoc (total (take i b)) (one_if (ltb (place v) i)) (below place i vs)

zeros-total : (n i : ℕ) → total (take i (replicate n 0)) ≡ 0
unfolding total
zeros-total zero zero = refl
zeros-total zero (suc i) = refl
zeros-total (suc n) zero = refl
zeros-total (suc n) (suc i) = zero-add (total (take i (replicate n 0))) ∙ zeros-total n i

pub filled-total : (place : ℕ → ℕ) (n : ℕ) (vs : List ℕ) (i : ℕ) → ((v : ℕ) → v < 2 ^ 64 → place v < n) → Words vs → total (take i (filled place n vs)) ≡ below place i vs
unfolding filled
filled-total place n vs i inside w =
    tally-total place n vs (replicate n 0) i inside w (length-replicate n 0)
    ∙ ap (λ (x : ℕ). x + below place i vs) (zeros-total n i) ∙ zero-add (below place i vs)

-- the first i buckets have the samples whose index is below i
buckets-total : (s : Bool) (vs : List ℕ) (i : ℕ) → Words vs → total (take i (filled_buckets s vs)) ≡ below (index_of s) i vs
buckets-total s vs i w = filled-total (index_of s) (bucket_count s) vs i (index_of-below s) w

-- what has a lower key has no higher count: one test for each sample
pub below_by : (f g : ℕ → ℕ) (i k : ℕ) (vs : List ℕ) → Words vs → ((v : ℕ) → v < 2 ^ 64 → f v < i → g v < k) → below f i vs ≤ below g k vs
unfolding below
below_by f g i k [] w h = le_refl 0
below_by f g i k (v ∷ vs) (more b w) h = sum (one_if (ltb (f v) i)) (one_if (ltb (g v) k)) (below f i vs) (below g k vs) (⊎_elim yes no (lt_or_ge (f v) i)) (below_by f g i k vs w h)
  where
    sum : (a b c d : ℕ) → a ≤ b → c ≤ d → a + c ≤ b + d
    sum a b c d x y = omega arith

    yes : f v < i → one_if (ltb (f v) i) ≤ one_if (ltb (g v) k)
    yes l = le_trans (le_of_eq (one_below (f v) i l)) (le_of_eq (sym (one_below (g v) k (h v b l))))

    no : i ≤ f v → one_if (ltb (f v) i) ≤ one_if (ltb (g v) k)
    no l = le_trans (le_of_eq (none_below (f v) i l)) (least (one_if (ltb (g v) k)))
      where
        least : (x : ℕ) → 0 ≤ x
        least x = omega arith

-- the bucket of a rank, by the sums before and after it
pub bucket_by_sums : (b : List ℕ) (r i : ℕ) → i < length b → total (take i b) ≤ r → r < total (take (i + 1) b) → bucket_at b r ≡ i
bucket_by_sums b r i h l u =
    at-past i b r (omega arith) l ∙ ap (λ (x : List ℕ). i + bucket_at x (r - total (take i b))) (drop-cons b i 0 h)
    ∙ ap (λ (x : ℕ). i + x) (at_first (get_or b i 0) (drop (suc i) b) (r - total (take i b)) (rest (total (take i b)) (total (take (i + 1) b)) (get_or b i 0) (total-next i b h)))
    ∙ add-zero i
  where
    rest : (t u' n : ℕ) → u' ≡ t + n → r - total (take i b) < get_or b i 0
    rest t u' n e = omega (arith, total-next i b h)

-- every sample of a sorted list of words is a word: it is looked up among them
pub bucket_of-rank : (s : Bool) (vs : List ℕ) (r x : ℕ) → Words vs → x < 2 ^ 64 → length (filled_buckets s vs) ≡ bucket_count s → KeyOfRank (order s) vs r (order s x) → bucket_at (filled_buckets s vs) r ≡ index_of s x
bucket_of-rank s vs r x w h n k =
    bucket_by_sums (filled_buckets s vs) r (index_of s x) (subst (λ (m : ℕ). index_of s x < m) (sym n) (index_of-below s x h))
    (le_trans (le_of_eq (buckets-total s vs (index_of s x) w)) (le_trans (below_by (index_of s) (order s) (index_of s x) (order s x) vs w lower) k.few_below))
    (lt_of_lt_of_le k.enough_through (le_trans (below_by (order s) (index_of s) (order s x + 1) (index_of s x + 1) vs w upper) (le_of_eq (sym (buckets-total s vs (index_of s x + 1) w)))))
  where
    lower : (v : ℕ) → v < 2 ^ 64 → index_of s v < index_of s x → order s v < order s x
    lower v b l = lt_of_not-le (λ (g : order s x ≤ order s v). not-le_of_lt l (index_of_monotone s x v h b g))

    upper : (v : ℕ) → v < 2 ^ 64 → order s v < order s x + 1 → index_of s v < index_of s x + 1
    upper v b l = up (index_of s v) (index_of s x) (index_of_monotone s v x b h (omega arith))
      where
        up : (a c : ℕ) → a ≤ c → a < c + 1
        up a c g = omega arith

-- sorting words gives words
chosen-words : (t : Bool) (xs ys : List ℕ) → Words xs → Words ys → Words (choose t xs ys)
unfolding choose
chosen-words true xs ys a b = a
chosen-words false xs ys a b = b

inserted_words : (key : ℕ → ℕ) (v : ℕ) (xs : List ℕ) → v < 2 ^ 64 → Words xs → Words (insert key v xs)
unfolding insert
inserted_words key v [] h w = more h none
inserted_words key v (x ∷ xs) h (more b w) = chosen-words (leb (key v) (key x)) (v ∷ x ∷ xs) (x ∷ insert key v xs) (more h (more b w)) (more b (inserted_words key v xs h w))

sorted-words : (key : ℕ → ℕ) (vs : List ℕ) → Words vs → Words (sorted key vs)
unfolding sorted
sorted-words key [] w = none
sorted-words key (v ∷ vs) (more h w) = inserted_words key v (sorted key vs) h (sorted-words key vs w)

word_at : (xs : List ℕ) (i : ℕ) → Words xs → get_or xs i 0 < 2 ^ 64
word_at [] i w = omega arith
word_at (x ∷ xs) zero (more h w) = h
word_at (x ∷ xs) (suc i) (more h w) = word_at xs i w

pub sorted-word : (key : ℕ → ℕ) (vs : List ℕ) (r : ℕ) → Words vs → get_or (sorted key vs) r 0 < 2 ^ 64
sorted-word key vs r w = word_at (sorted key vs) r (sorted-words key vs w)
