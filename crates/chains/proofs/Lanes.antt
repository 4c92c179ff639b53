-- One link more in a lane: its two words are as they should be, and nothing else changes, in no lane.
-- Assumes nothing.
use mathlib.Core.Path.{◌≡◌, refl, sym, ap, ◌∙◌}
use mathlib.Core.Logic.{◌≢◌}
use mathlib.Core.List.{List, []}
use Prim.Native.Nat.{ℕ, ◌+◌, ◌≤◌, ◌<◌}
use native.Mathlib.Omega.{arith}
use lib.Dec.{eqb}
use lib.ListN.{length, get_or, set, length-set}
use lib.Seq.{get_or-set_same, get_or-set_other}
use Rattle.chains.specs.declared.Ring.{Ring}
use Rattle.chains.specs.Rings.{push_slot, after_push, RingFits}
use Rattle.chains.specs.Links.{word_of, set_word, newest, older, linked, Rows}
use Rattle.chains.specs.Whole.{Indexed}
use Rattle.chains.proofs.Tests.{Test, holds, fails, eq_test}
use Rattle.chains.proofs.Places.{push-below}
use Rattle.chains.proofs.Chains.{Ready, indexed_ready, pushed_indexed}

-- ---- words of rows

module _ (n width : ℕ) (rows : List (List ℕ)) (fit : Rows n width rows) (row : ℕ) (row_in : row < n) where
  -- a row that is replaced by one of the same width
  pub set_row : (x : List ℕ) → length x ≡ width → Rows n width (set rows row x)
  set_row x e = record { rows_are = length-set rows row x ∙ fit.rows_are; widths_are = λ i l. widths i l (eq_test i row) }
    where
      widths : (i : ℕ) → i < n → Test (i ≡ row) (eqb i row) → length (get_or (set rows row x) i []) ≡ width
      widths i l (holds q t) = rw (q, get_or-set_same rows row x [] (omega (arith, fit.rows_are))) e
      widths i l (fails q t) = rw (get_or-set_other rows row i x [] q) (fit.widths_are i l)

  pub set_word_lem : (i v : ℕ) → Rows n width (set_word rows row i v)
  set_word_lem i v = set_row (set (get_or rows row []) i v) (length-set (get_or rows row []) i v ∙ fit.widths_are row row_in)

  pub word_same : (i v : ℕ) → i < width → word_of (set_word rows row i v) row i ≡ v
  word_same i v l =
      ap (λ (x : List ℕ). get_or x i 0) (get_or-set_same rows row (set (get_or rows row []) i v) [] (omega (arith, fit.rows_are)))
      ∙ get_or-set_same (get_or rows row []) i v 0 (omega (arith, fit.widths_are row row_in))

  pub word-other_row : (i v other j : ℕ) → other ≢ row → word_of (set_word rows row i v) other j ≡ word_of rows other j
  word-other_row i v other j ne = ap (λ (x : List ℕ). get_or x j 0) (get_or-set_other rows row other (set (get_or rows row []) i v) [] ne)

  pub word-other : (i v other j : ℕ) → j ≢ i → word_of (set_word rows row i v) other j ≡ word_of rows other j
  word-other i v other j ne = go (eq_test other row)
    where
      go : Test (other ≡ row) (eqb other row) → word_of (set_word rows row i v) other j ≡ word_of rows other j
      go (holds q t) =
          rw q (ap (λ (x : List ℕ). get_or x j 0) (get_or-set_same rows row (set (get_or rows row []) i v) [] (omega (arith, fit.rows_are))) ∙ get_or-set_other (get_or rows row []) i j v 0 ne)
      go (fails q t) = word-other_row i v other j q

-- ---- a link

module _ (N lane : ℕ) (links : List (List ℕ)) (fit : Rows N 8 links) (h p : ℕ) (lane_in : lane < 7) (h-in : h < N) (p-in : p < N) where
  abbrev half : List (List ℕ)
  half = set_word links p (lane + 1) (newest lane links h)

  half_fits : Rows N 8 half
  half_fits = set_word_lem N 8 links fit p p-in (lane + 1) (newest lane links h)

  pub linked-fits : Rows N 8 (linked lane links h p)
  unfolding linked
  linked-fits = set_word_lem N 8 half half_fits h h-in lane p

  pub linked-newest : newest lane (linked lane links h p) h ≡ p
  unfolding linked
  linked-newest = word_same N 8 half half_fits h h-in lane p (omega arith)

  pub linked-newest-other : (i : ℕ) → i ≢ h → newest lane (linked lane links h p) i ≡ newest lane links i
  unfolding linked
  linked-newest-other i ne =
      word-other_row N 8 half half_fits h h-in lane p i lane ne
      ∙ word-other N 8 links fit p p-in (lane + 1) (newest lane links h) i lane (λ e. omega (arith, e))

  pub linked-older : older lane (linked lane links h p) p ≡ newest lane links h
  unfolding linked
  linked-older =
      word-other N 8 half half_fits h h-in lane p p (lane + 1) (λ e. omega (arith, e))
      ∙ word_same N 8 links fit p p-in (lane + 1) (newest lane links h) (omega arith)

  pub linked-older-other : (i : ℕ) → i ≢ p → older lane (linked lane links h p) i ≡ older lane links i
  unfolding linked
  linked-older-other i ne =
      word-other N 8 half half_fits h h-in lane p i (lane + 1) (λ e. omega (arith, e))
      ∙ word-other_row N 8 links fit p p-in (lane + 1) (newest lane links h) i (lane + 1) ne

  -- A link in one lane leaves the other lanes alone.
  pub linked_elsewhere : (i j : ℕ) → j ≢ lane → j ≢ lane + 1 → word_of (linked lane links h p) i j ≡ word_of links i j
  unfolding linked
  linked_elsewhere i j a b =
      word-other N 8 half half_fits h h-in lane p i j a
      ∙ word-other N 8 links fit p p-in (lane + 1) (newest lane links h) i j b

  -- The chains of another lane stay as they are.
  pub other-newest : (other : ℕ) → other ≢ lane → other ≢ lane + 1 → newest other (linked lane links h p) ≡ newest other links
  other-newest other a b = λ j i. linked_elsewhere i other a b j

  pub other-older : (other : ℕ) → other ≢ lane → other + 1 ≢ lane → older other (linked lane links h p) ≡ older other links
  other-older other a c = λ j i. linked_elsewhere i (other + 1) c (λ e. omega (arith, a, e)) j

-- A push of an entry of hash h, linked in a lane: its chains are whole.
pub link-ready : (N lane : ℕ) (links : List (List ℕ)) (ring : Ring) (hash hash' : ℕ → ℕ) (h : ℕ) → Rows N 8 links → lane < 7 → h < N → RingFits N ring
    → hash' (push_slot N ring) ≡ h → ((i : ℕ) → i ≢ push_slot N ring → hash' i ≡ hash i)
    → Ready N hash (newest lane links) (older lane links) ring
    → Indexed N hash' (newest lane (linked lane links h (push_slot N ring))) (older lane (linked lane links h (push_slot N ring))) (after_push N ring).head (after_push N ring).len
link-ready N lane links ring hash hash' h fit l m r here there x =
    let s : push_slot N ring < N = push-below N ring r in
    pushed_indexed N hash _ _ hash' _ _ ring h r here there
    (linked-newest N lane links fit h (push_slot N ring) l m s) (linked-newest-other N lane links fit h (push_slot N ring) l m s)
    (linked-older N lane links fit h (push_slot N ring) l m s) (linked-older-other N lane links fit h (push_slot N ring) l m s) x

-- The same where the chains of all entries are whole.
pub link_indexed : (N lane : ℕ) (links : List (List ℕ)) (ring : Ring) (hash hash' : ℕ → ℕ) (h : ℕ) → Rows N 8 links → lane < 7 → h < N → RingFits N ring
    → hash' (push_slot N ring) ≡ h → ((i : ℕ) → i ≢ push_slot N ring → hash' i ≡ hash i)
    → Indexed N hash (newest lane links) (older lane links) ring.head ring.len
    → Indexed N hash' (newest lane (linked lane links h (push_slot N ring))) (older lane (linked lane links h (push_slot N ring))) (after_push N ring).head (after_push N ring).len
link_indexed N lane links ring hash hash' h fit l m r here there x = link-ready N lane links ring hash hash' h fit l m r here there (indexed_ready N hash _ _ ring r x)
