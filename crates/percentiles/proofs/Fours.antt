-- Four percentiles at once are four one by one. Assumes nothing.
use mathlib.Core.Path.{◌≡◌, refl, sym, ◌∙◌, ap}
use mathlib.Core.List.{List, [], ◌∷◌, ◌++◌, map}
use mathlib.Core.Logic.{◌⊎◌, inl, inr}
use Prim.Native.Nat.{ℕ, zero, suc, ◌+◌, ◌≤◌, ◌<◌}
use native.Mathlib.Omega.{arith}
use lib.Ieee.{Float, nan}
use lib.ListN.{length, get_or, set, take, drop, length-set}
use lib.Seq.{set-get_or}
use Rattle.rank.specs.Rank.{rank_below}
use Rattle.exact_rank.specs.Rank.{at_ranks}
use Rattle.buckets.specs.Signed.{order}
use Rattle.buckets.proofs.Facts.{lt_or_ge}
use Rattle.quantiles.specs.declared.Quantiles.{Quantiles}
use Rattle.percentiles.specs.Percentiles.{percentile}
use Rattle.percentiles.specs.Fours.{or_last, rank_at, four_ranks, put, put_four}
use Rattle.percentiles.proofs.Values.{shows_sample, shown-next, shown_all, percentile_is}

-- each of the four ranks is that of a sample
pub four_below : (ps : List Float) (count i : ℕ) → 0 < count → (k : ℕ) → k < 4 → get_or (four_ranks ps count i) k 0 < count
four_below ps count i l zero m = rank_below (get_or ps (or_last (length ps) i) nan) count l
four_below ps count i l (suc zero) m = rank_below (get_or ps (or_last (length ps) (i + 1)) nan) count l
four_below ps count i l (suc (suc zero)) m = rank_below (get_or ps (or_last (length ps) (i + 2)) nan) count l
four_below ps count i l (suc (suc (suc zero))) m = rank_below (get_or ps (or_last (length ps) (i + 3)) nan) count l
four_below ps count i l (suc (suc (suc (suc k)))) m = absurd (omega (arith, m))

same_sets : (shown : List ℕ) (i j k l a b c d a' b' c' d' : ℕ) → a ≡ a' → b ≡ b' → c ≡ c' → d ≡ d'
    → set (set (set (set shown i a) j b) k c) l d ≡ set (set (set (set shown i a') j b') k c') l d'
same_sets shown i j k l a b c d a' b' c' d' p q r s = rw (p, q, r, s)

-- a write keeps the length
pub long_two : (shown : List ℕ) (i j a b : ℕ) → length (set (set shown i a) j b) ≡ length shown
long_two shown i j a b = length-set (set shown i a) j b ∙ length-set shown i a

pub long_three : (shown : List ℕ) (i j k a b c : ℕ) → length (set (set (set shown i a) j b) k c) ≡ length shown
long_three shown i j k a b c = length-set (set (set shown i a) j b) k c ∙ long_two shown i j a b

-- a place that there is
pub or_last_in : (n i : ℕ) → i < n → or_last n i ≡ i
or_last_in n i h = omega (arith, h)

pub or_last-below : (n i : ℕ) → 0 < n → or_last n i < n
or_last-below n i h = omega (arith, h)

at_map : (f : Float → ℕ) (ps : List Float) (m : ℕ) → m < length ps → get_or (map f ps) m 0 ≡ f (get_or ps m nan)
at_map f [] m h = absurd (omega (arith, h))
at_map f (x ∷ xs) zero h = refl
at_map f (x ∷ xs) (suc m) h = at_map f xs m (omega (arith, h))

module _ (q : Quantiles) (room : List ℕ) (ps : List Float) where
  abbrev at : ℕ → ℕ
  at i = or_last (length ps) i

  abbrev value_of : ℕ → ℕ
  value_of i = percentile q room (get_or ps (at i) nan)

  pub long_four : (shown : List ℕ) (i : ℕ) → length (put_four q room ps shown i) ≡ length shown
  long_four shown i =
      length-set (put q room ps (put q room ps (put q room ps shown i) (i + 1)) (i + 2)) (at (i + 3)) (value_of (i + 3))
      ∙ long_three shown (at i) (at (i + 1)) (at (i + 2)) (value_of i) (value_of (i + 1)) (value_of (i + 2))

  -- the samples of the four ranks, put in their places
  pub four_put : (shown : List ℕ) (i a b c d : ℕ) (ranks four : List ℕ) → q.count ≤ 4096 → a ≡ at i → b ≡ at (i + 1) → c ≡ at (i + 2) → d ≡ at (i + 3)
      → ranks ≡ four_ranks ps q.count i → four ≡ at_ranks (order q.signed) room q.count ranks
      → set (set (set (set shown a (get_or four 0 0)) b (get_or four 1 0)) c (get_or four 2 0)) d (get_or four 3 0) ≡ put_four q room ps shown i
  unfolding at_ranks
  four_put shown i a b c d ranks four h at_a at_b at_c at-d e f =
      placed ∙ same_sets shown (at i) (at (i + 1)) (at (i + 2)) (at (i + 3)) _ _ _ _ _ _ _ _ (value 0 i refl) (value 1 (i + 1) refl) (value 2 (i + 2) refl) (value 3 (i + 3) refl)
    where
      placed : set (set (set (set shown a (get_or four 0 0)) b (get_or four 1 0)) c (get_or four 2 0)) d (get_or four 3 0)
          ≡ set (set (set (set shown (at i) (get_or four 0 0)) (at (i + 1)) (get_or four 1 0)) (at (i + 2)) (get_or four 2 0)) (at (i + 3)) (get_or four 3 0)
      placed = rw (at_a, at_b, at_c, at-d)

      all : four ≡ at_ranks (order q.signed) room q.count (four_ranks ps q.count i)
      all = f ∙ ap (at_ranks (order q.signed) room q.count) e

      value : (k j : ℕ) → get_or (at_ranks (order q.signed) room q.count (four_ranks ps q.count i)) k 0 ≡ get_or (at_ranks (order q.signed) room q.count (four_ranks ps q.count j)) 0 0 → get_or four k 0 ≡ value_of j
      value k j g =
          percentile_is q room (get_or ps (at j) nan) (rank_at ps q.count j) (get_or four k 0) refl (ap (λ (l : List ℕ). get_or l k 0) all ∙ g ∙ shows_sample q room (rank_at ps q.count j) h)

  module _ (shown₀ : List ℕ) (l : length shown₀ ≡ length ps) (some : 0 < length ps) where
    -- the lent answer with the first n percentiles shown
    abbrev so_far : ℕ → List ℕ
    so_far n = map (percentile q room) (take n ps) ++ drop n shown₀

    whole : (n : ℕ) → length ps ≤ n → so_far n ≡ map (percentile q room) ps
    whole n h = shown_all (percentile q room) ps shown₀ n h l

    -- one more, and the last one again where all are shown
    next : (i n : ℕ) → i + 1 ≡ n → put q room ps (so_far i) i ≡ so_far n
    next i n e = by (lt_or_ge i (length ps))
      where
        by : (i < length ps) ⊎ (length ps ≤ i) → put q room ps (so_far i) i ≡ so_far n
        by (inl h) =
            ap (λ (j : ℕ). set (so_far i) j (percentile q room (get_or ps j nan))) (or_last_in (length ps) i h)
            ∙ shown-next (percentile q room) ps nan shown₀ i (percentile q room (get_or ps i nan)) h l refl ∙ ap (λ (m : ℕ). so_far m) e
        by (inr h) =
            ap (λ (s : List ℕ). set s (at i) (value_of i)) (whole i h)
            ∙ ap (λ (v : ℕ). set (map (percentile q room) ps) (at i) v) (sym (at_map (percentile q room) ps (at i) (or_last-below (length ps) i some)))
            ∙ set-get_or (map (percentile q room) ps) (at i) 0
            ∙ sym (whole n (omega (arith, h, e)))

    -- four percentiles more in the lent answer
    pub four_next : (i : ℕ) → put_four q room ps (so_far i) i ≡ so_far (i + 4)
    four_next i =
        ap (λ (s : List ℕ). put q room ps (put q room ps (put q room ps s (i + 1)) (i + 2)) (i + 3)) (next i (i + 1) refl)
        ∙ ap (λ (s : List ℕ). put q room ps (put q room ps s (i + 2)) (i + 3)) (next (i + 1) (i + 2) (omega arith))
        ∙ ap (λ (s : List ℕ). put q room ps s (i + 3)) (next (i + 2) (i + 3) (omega arith))
        ∙ next (i + 3) (i + 4) (omega arith)
