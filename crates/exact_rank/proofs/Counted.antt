-- Sorting and counting say the same of a rank: the sample at the rank in sorted order is a sample with at most `rank` lower
-- keys and more than `rank` that are no higher, and where no two samples share a key it is the only one.
-- Assumes nothing.
use Rattle.std.proofs.Common.{◌≡◌, ℕ, zero, suc, ◌^◌, ◌<◌, Bool, true, false, leb, List, [], ◌∷◌, length, get_or, refl, le_of_suc-le-suc, not-suc-le-zero, arith}
use Rattle.exact_rank.specs.Rank.{unsigned, signed, choose, insert, sorted}
use Rattle.exact_rank.specs.Samples.{In, here, there, SampleOfRank}
use Rattle.exact_rank.proofs.Sorting.{length-sorted, sorted-is_counted, one_key}

in_at : (xs : List ℕ) (i : ℕ) → i < length xs → In (get_or xs i 0) xs
in_at [] i l = absurd (not-suc-le-zero l)
in_at (x ∷ xs) zero l = here
in_at (x ∷ xs) (suc i) l = there (in_at xs i (le_of_suc-le-suc l))

in_swapped : {v x y : ℕ} {ys zs : List ℕ} → (In v zs → In v (x ∷ ys)) → In v (y ∷ zs) → In v (x ∷ y ∷ ys)
in_swapped h here = there here
in_swapped h (there m) = past (h m)
  where
    past : {v x y : ℕ} {ys : List ℕ} → In v (x ∷ ys) → In v (x ∷ y ∷ ys)
    past here = here
    past (there m) = there (there m)

in_choose : (t : Bool) {v x y : ℕ} {ys zs : List ℕ} → (In v zs → In v (x ∷ ys)) → In v (choose t (x ∷ y ∷ ys) (y ∷ zs)) → In v (x ∷ y ∷ ys)
unfolding choose
in_choose true h m = m
in_choose false h m = in_swapped h m

module _ (key : ℕ → ℕ) where
  in_insert : {v : ℕ} (x : ℕ) (ys : List ℕ) → In v (insert key x ys) → In v (x ∷ ys)
  unfolding insert
  in_insert x [] m = m
  in_insert x (y ∷ ys) m = in_choose (leb (key x) (key y)) (in_insert x ys) m

  in_kept : {v x : ℕ} {ys zs : List ℕ} → (In v ys → In v zs) → In v (x ∷ ys) → In v (x ∷ zs)
  in_kept h here = here
  in_kept h (there m) = there (h m)

  in_sorted : {v : ℕ} (xs : List ℕ) → In v (sorted key xs) → In v xs
  unfolding sorted
  in_sorted [] m = m
  in_sorted (x ∷ xs) m = in_kept (in_sorted xs) (in_insert x (sorted key xs) m)

  -- what sorting shows is what counting asks for
  pub sorted_is_sample : (xs : List ℕ) (rank : ℕ) → rank < length xs → SampleOfRank key xs rank (get_or (sorted key xs) rank 0)
  sorted_is_sample xs rank l =
      record {
        member = in_sorted xs (in_at (sorted key xs) rank (omega (arith, l, length-sorted key xs)));
        counted = sorted-is_counted key xs rank l;
      }

  -- what counting asks for is what sorting shows
  pub sample_is_sorted : (xs : List ℕ) → ((a b : ℕ) → In a xs → In b xs → key a ≡ key b → a ≡ b) → (rank v : ℕ) → rank < length xs
      → SampleOfRank key xs rank v → v ≡ get_or (sorted key xs) rank 0
  sample_is_sorted xs apart rank v l s =
      let w = sorted_is_sample xs rank l in
      apart v (get_or (sorted key xs) rank 0) s.member w.member
      (one_key key xs rank (key v) (key (get_or (sorted key xs) rank 0)) s.counted w.counted)

-- of unsigned samples no two share a key
pub unsigned_sample_is_sorted : (xs : List ℕ) (rank v : ℕ) → rank < length xs → SampleOfRank unsigned xs rank v
    → v ≡ get_or (sorted unsigned xs) rank 0
unsigned_sample_is_sorted xs rank v l s = sample_is_sorted unsigned xs (λ a b m n e. e) rank v l s

-- of signed samples that are words no two share a key
pub signed_sample_is_sorted : (xs : List ℕ) → ((a : ℕ) → In a xs → a < 2 ^ 64) → (rank v : ℕ) → rank < length xs → SampleOfRank signed xs rank v
    → v ≡ get_or (sorted signed xs) rank 0
signed_sample_is_sorted xs words rank v l s =
    sample_is_sorted signed xs (λ a b m n e. omega (arith, words a m, words b n, e)) rank v l s
