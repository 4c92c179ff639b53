-- A chain that loses its last entry ends: one word of one lane may change, and the chains of the entries that stay are whole.
-- Assumes nothing.
use mathlib.Core.Path.{◌≡◌, refl, sym, ap, ◌∙◌}
use mathlib.Core.Bool.{Bool, true, false, cond}
use mathlib.Core.Logic.{◌≢◌}
use mathlib.Core.List.{List, []}
use Prim.Native.Nat.{ℕ, suc, ◌+◌, ◌≤◌, ◌<◌}
use native.Mathlib.Omega.{arith}
use lib.Dec.{eqb}
use lib.ListN.{get_or, set}
use lib.Seq.{set-get_or}
use Rattle.chains.specs.Rings.{wrap}
use Rattle.chains.specs.Links.{word_of, set_word, newest, older, ended, Rows}
use Rattle.chains.specs.Whole.{Indexed}
use Rattle.chains.proofs.Tests.{Test, holds, fails, eq_test, eq_true, eq_false}
use Rattle.chains.proofs.Chains.{evict_indexed, oldest_alone, free_indexed}
use Rattle.chains.proofs.Lanes.{set_word_lem, word-other, word-other_row}

-- what `end_at` leaves: its link is written in either case
pub end_stored : (N lane : ℕ) (links : List (List ℕ)) (h p : ℕ)
    → set_word links h lane (cond (eqb (newest lane links h) p) N (newest lane links h)) ≡ ended N lane links h p
unfolding ended
end_stored N lane links h p = go (eqb (newest lane links h) p)
  where
    go : (b : Bool) → set_word links h lane (cond b N (newest lane links h)) ≡ cond b (set_word links h lane N) links
    go true = refl
    go false = ap (set links h) (set-get_or (get_or links h []) lane 0) ∙ set-get_or links h []

module _ (N lane : ℕ) (links : List (List ℕ)) (fit : Rows N 8 links) (h p : ℕ) (h-in : h < N) where
  pub ended-fits : Rows N 8 (ended N lane links h p)
  unfolding ended
  ended-fits = go (eqb (newest lane links h) p)
    where
      go : (b : Bool) → Rows N 8 (cond b (set_word links h lane N) links)
      go true = set_word_lem N 8 links fit h h-in lane N
      go false = fit

  -- no other word of a row changes
  pub ended_elsewhere : (i j : ℕ) → j ≢ lane → word_of (ended N lane links h p) i j ≡ word_of links i j
  unfolding ended
  ended_elsewhere i j ne = go (eqb (newest lane links h) p)
    where
      go : (b : Bool) → word_of (cond b (set_word links h lane N) links) i j ≡ word_of links i j
      go true = word-other N 8 links fit h h-in lane N i j ne
      go false = refl

  -- so the chains of another lane stay as they are
  pub ended-newest : (other : ℕ) → other ≢ lane → newest other (ended N lane links h p) ≡ newest other links
  ended-newest other a = λ j i. ended_elsewhere i other a j

  pub ended-older : (other : ℕ) → other + 1 ≢ lane → older other (ended N lane links h p) ≡ older other links
  ended-older other a = λ j i. ended_elsewhere i (other + 1) a j

-- The oldest goes, and where a hash led to it, it leads to no slot: the chains of the others are whole.
pub ended_indexed : (N lane : ℕ) (links : List (List ℕ)) (hash : ℕ → ℕ) (h head n : ℕ) → Rows N 8 links → h < N → head < N → suc n ≤ N
    → Indexed N hash (newest lane links) (older lane links) head (suc n)
    → Indexed N hash (newest lane (ended N lane links h head)) (older lane (ended N lane links h head)) (wrap N (suc head)) n
unfolding ended
ended_indexed N lane links hash h head n fit h-in head_in l x = go (eq_test (newest lane links h) head)
  where
    left : Indexed N hash (newest lane links) (older lane links) (wrap N (suc head)) n
    left = evict_indexed N hash (newest lane links) (older lane links) head n head_in l x

    next-same : older lane (set_word links h lane N) ≡ older lane links
    next-same = λ j i. word-other N 8 links fit h h-in lane N i (lane + 1) (λ e. omega (arith, e)) j

    go : Test (newest lane links h ≡ head) (eqb (newest lane links h) head)
        → Indexed N hash (newest lane (cond (eqb (newest lane links h) head) (set_word links h lane N) links)) (older lane (cond (eqb (newest lane links h) head) (set_word links h lane N) links)) (wrap N (suc head)) n
    go (holds e t) =
        rw (t, next-same)
        (free_indexed N hash (newest lane links) (older lane links) (wrap N (suc head)) (newest lane (set_word links h lane N)) n h
        (oldest_alone N hash (newest lane links) (older lane links) head n h head_in l e x)
        (λ i ne. word-other_row N 8 links fit h h-in lane N i lane ne) left)
    go (fails e t) = rw t left
