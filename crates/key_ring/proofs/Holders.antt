-- The slots of reflector numbers over rows, newest first: what an accepted key, an observation and a change at a holder do to each.
-- No count exceeds the observed rows of its number, so where a holder itself is evicted its count falls to 0, and the slot is free.
-- Assumes nothing.
use mathlib.Core.Path.{◌≡◌, refl, sym, ap, ◌∙◌}
use mathlib.Core.Bool.{Bool, true, false, ◌&&◌, cond}
use mathlib.Core.Logic.{◌≢◌}
use mathlib.Core.List.{List, [], ◌∷◌, ◌++◌}
use Prim.Native.Nat.{ℕ, suc, ◌-◌, ◌/◌, ◌%◌, ◌≤◌}
use native.Mathlib.Omega.{arith}
use lib.Dec.{eqb}
use lib.ListN.{length, take, get_or, set}
use Rattle.chains.specs.Walk.{first_of, change_first}
use Rattle.chains.proofs.Tests.{Test, holds, fails, eq_test, eq_true, eq_false, true_not_false}
use Rattle.key_ring.specs.Rows.{no_slot, count_of, is_observed, lowered, Row, holds?, words_of, taken, slot_in, with, change, observed_in, Counted, new_row}
use Rattle.correlation.specs.Slots.{lower_word}
use Rattle.key_ring.proofs.Packing.{lowered_zero, lowered-count, lowered_rest}

-- ---- what a row that holds says

pub holds-number : (r : ℕ) (x : Row) → holds? r x ≡ true → r ≡ x.number
holds-number r x e = go (is_observed x.words) (eq_test r x.number) e
  where
    go : (b : Bool) → Test (r ≡ x.number) (eqb r x.number) → (b && eqb r x.number) ≡ true → r ≡ x.number
    go b (holds p t) f = p
    go true (fails p t) f = absurd (true_not_false f t)
    go false (fails p t) f = absurd (true_not_false f refl)

holds-observed : (r : ℕ) (x : Row) → holds? r x ≡ true → is_observed x.words ≡ true
holds-observed r x e = go (is_observed x.words) refl e
  where
    go : (b : Bool) → is_observed x.words ≡ b → (b && eqb r x.number) ≡ true → is_observed x.words ≡ true
    go true q f = q
    go false q f = absurd (true_not_false f refl)

-- what stands for a slot that no row holds is not observed, and what a row holds is
pub unobserved-none : (rows : List Row) (r : ℕ) → is_observed (words_of rows r) ≡ false → words_of rows r ≡ no_slot
unfolding first_of
unobserved-none [] r e = refl
unobserved-none (x ∷ xs) r e = go (holds? r x) refl e (unobserved-none xs r)
  where
    go : (b : Bool) → holds? r x ≡ b → is_observed (cond b x.words (words_of xs r)) ≡ false → (is_observed (words_of xs r) ≡ false → words_of xs r ≡ no_slot)
        → cond b x.words (words_of xs r) ≡ no_slot
    go true q f ih = absurd (true_not_false (holds-observed r x q) f)
    go false q f ih = ih f

-- ---- a change at a holder

module _ (f : List ℕ → List ℕ) (keeps : (words : List ℕ) → is_observed (f words) ≡ is_observed words) where
  holds-with : (r : ℕ) (x : Row) → holds? r (with f x) ≡ holds? r x
  holds-with r x = ap (λ (b : Bool). b && eqb r x.number) (keeps x.words)

  -- the words of that number change where there is a holder, and those of no other
  pub change-words : (q : ℕ) (rows : List Row) (r : ℕ)
      → words_of (change f q rows) r ≡ cond (eqb r q && is_observed (words_of rows q)) (f (words_of rows r)) (words_of rows r)
  unfolding first_of change_first
  change-words q [] r = go (eqb r q)
    where
      go : (b : Bool) → no_slot ≡ cond (b && false) (f no_slot) no_slot
      go true = refl
      go false = refl
  change-words q (x ∷ xs) r = go (holds? q x) refl (holds? r x) refl (eq_test r q) (change-words q xs r)
    where
      go : (b : Bool) → holds? q x ≡ b → (d : Bool) → holds? r x ≡ d → Test (r ≡ q) (eqb r q)
          → words_of (change f q xs) r ≡ cond (eqb r q && is_observed (words_of xs q)) (f (words_of xs r)) (words_of xs r)
          → words_of (cond b (with f x ∷ xs) (x ∷ change f q xs)) r
          ≡ cond (eqb r q && is_observed (cond b x.words (words_of xs q))) (f (cond d x.words (words_of xs r))) (cond d x.words (words_of xs r))
      go true e true g (holds p t) ih = rw (holds-with r x, g, t, holds-observed q x e)
      go true e true g (fails p t) ih = absurd (p (holds-number r x g ∙ sym (holds-number q x e)))
      go true e false g (holds p t) ih = absurd (true_not_false (ap (λ (i : ℕ). holds? i x) p ∙ e) g)
      go true e false g (fails p t) ih = rw (holds-with r x, g, t)
      go false e true g (holds p t) ih = absurd (true_not_false (ap (λ (i : ℕ). holds? i x) (sym p) ∙ g) e)
      go false e true g (fails p t) ih = rw (g, t)
      go false e false g t ih = rw g ih

  pub change-observed : (q : ℕ) (rows : List Row) (r : ℕ) → observed_in (change f q rows) r ≡ observed_in rows r
  unfolding observed_in change_first
  change-observed q [] r = refl
  change-observed q (x ∷ xs) r = go (holds? q x) (change-observed q xs r)
    where
      go : (b : Bool) → observed_in (change f q xs) r ≡ observed_in xs r
          → observed_in (cond b (with f x ∷ xs) (x ∷ change f q xs)) r ≡ cond (holds? r x) (suc (observed_in xs r)) (observed_in xs r)
      go true ih = rw (holds-with r x)
      go false ih = rw ih

  -- a change that raises no count keeps what bounds the counts
  pub change-counted : ((words : List ℕ) → count_of (f words) ≤ count_of words) → (q : ℕ) (rows : List Row) → Counted rows → Counted (change f q rows)
  change-counted less q rows bd r = rw (change-words q rows r, change-observed q rows r) (go (eqb r q && is_observed (words_of rows q)) (bd r))
    where
      go : (b : Bool) → count_of (words_of rows r) ≤ observed_in rows r → count_of (cond b (f (words_of rows r)) (words_of rows r)) ≤ observed_in rows r
      go true l = let m : count_of (f (words_of rows r)) ≤ count_of (words_of rows r) = less (words_of rows r) in omega arith
      go false l = l

  -- without the oldest row, which may be the one that changes
  pub change_all_but_oldest : (q : ℕ) (xs : List Row) (x : Row) → take (length xs) (change f q (xs ++ (x ∷ []))) ≡ change f q xs
  unfolding change_first
  change_all_but_oldest q [] x = refl
  change_all_but_oldest q (y ∷ xs) x = go (holds? q y) (change_all_but_oldest q xs x)
    where
      all : (zs : List Row) → take (length zs) (zs ++ (x ∷ [])) ≡ zs
      all [] = refl
      all (z ∷ zs) = ap (λ (l : List Row). z ∷ l) (all zs)

      go : (b : Bool) → take (length xs) (change f q (xs ++ (x ∷ []))) ≡ change f q xs
          → take (suc (length xs)) (cond b (with f y ∷ (xs ++ (x ∷ []))) (y ∷ change f q (xs ++ (x ∷ [])))) ≡ cond b (with f y ∷ xs) (y ∷ change f q xs)
      go true ih = ap (λ (l : List Row). with f y ∷ l) (all xs)
      go false ih = ap (λ (l : List Row). y ∷ l) ih

-- a row that was not observed is passed over
pub change_on : (f : List ℕ → List ℕ) (q : ℕ) (x : Row) (xs : List Row) → is_observed x.words ≡ false → change f q (x ∷ xs) ≡ x ∷ change f q xs
unfolding change_first
change_on f q x xs e = rw e

-- ---- lowering

first-set : (words : List ℕ) (v : ℕ → ℕ) → v 0 ≡ 0 → get_or (set words 0 (v (get_or words 0 0))) 0 0 ≡ v (get_or words 0 0)
first-set [] v e = sym e
first-set (w ∷ ws) v e = refl

lowered-word : (words : List ℕ) → get_or (lowered words) 0 0 ≡ lower_word (get_or words 0 0)
lowered-word words = first-set words lower_word (sym (lowered_zero 0 refl))

pub lowered_keeps : (words : List ℕ) → is_observed (lowered words) ≡ is_observed words
lowered_keeps words = ap (λ (n : ℕ). eqb (n % 2) 1) (ap (λ (w : ℕ). w / 65536) (lowered-word words) ∙ lowered_rest (get_or words 0 0))

pub lowered-counts : (words : List ℕ) → count_of (lowered words) ≡ count_of words - 1
lowered-counts words = ap (λ (w : ℕ). w % 65536) (lowered-word words) ∙ lowered-count (get_or words 0 0)

taken_none : (words : List ℕ) → count_of words ≡ 0 → taken words ≡ no_slot
taken_none words e = rw (eq_true (count_of words) 0 e)

taken_some : (words : List ℕ) → (count_of words ≡ 0 → ⊥) → taken words ≡ words
taken_some words ne = rw (eq_false (count_of words) 0 ne)

-- lowering a slot, or the words behind it, is one thing
taken-lowered : (words : List ℕ) → taken (lowered (taken words)) ≡ taken (lowered words)
taken-lowered words = go (eq_test (count_of words) 0)
  where
    none : taken (lowered no_slot) ≡ no_slot
    none = taken_none (lowered no_slot) (lowered-counts no_slot)

    go : Test (count_of words ≡ 0) (eqb (count_of words) 0) → taken (lowered (taken words)) ≡ taken (lowered words)
    go (holds p t) =
        ap (λ (w : List ℕ). taken (lowered w)) (taken_none words p) ∙ none ∙ sym (taken_none (lowered words) (lowered-counts words ∙ ap (λ (n : ℕ). n - 1) p))
    go (fails p t) = ap (λ (w : List ℕ). taken (lowered w)) (taken_some words p)

-- ---- the oldest row

-- x is the oldest row: the slot of r stands above it, or x itself holds it
data Oldest (xs : List Row) (x : Row) (r : ℕ) : Type 0 where
  above : words_of (xs ++ (x ∷ [])) r ≡ words_of xs r → observed_in (xs ++ (x ∷ [])) r ≤ suc (observed_in xs r)
      → (r ≢ x.number → observed_in (xs ++ (x ∷ [])) r ≡ observed_in xs r) → Oldest xs x r
  itself : r ≡ x.number → words_of xs r ≡ no_slot → observed_in xs r ≡ 0 → observed_in (xs ++ (x ∷ [])) r ≡ 1 → Oldest xs x r

oldest : (xs : List Row) (x : Row) (r : ℕ) → Oldest xs x r
unfolding first_of observed_in
oldest [] x r = go (holds? r x) refl
  where
    go : (b : Bool) → holds? r x ≡ b → Oldest [] x r
    go true e = itself (holds-number r x e) refl refl (rw e)
    go false e = above (rw e) (rw e (omega arith)) (λ ne. rw e)
oldest (y ∷ xs) x r = go (holds? r y) refl (oldest xs x r)
  where
    go : (b : Bool) → holds? r y ≡ b → Oldest xs x r → Oldest (y ∷ xs) x r
    go true e (above a b c) = above (rw e) (rw e (omega arith)) (λ ne. rw e (ap suc (c ne)))
    go true e (itself a b c d) = above (rw e) (rw (e, c, d) (omega arith)) (λ ne. absurd (ne a))
    go false e (above a b c) = above (rw e a) (rw e b) (λ ne. rw e (c ne))
    go false e (itself a b c d) = itself a (rw e b) (rw e c) (rw e d)

module _ (xs : List Row) (x : Row) (bd : Counted (xs ++ (x ∷ []))) where
  -- The oldest goes: the slot of its number falls by one, at 0 it is free, and every other stays.
  pub evict_slot : (r : ℕ)
      → slot_in (change lowered x.number xs) r ≡ cond (eqb r x.number) (taken (lowered (slot_in (xs ++ (x ∷ [])) r))) (slot_in (xs ++ (x ∷ [])) r)
  evict_slot r = ap taken (change-words lowered lowered_keeps x.number xs r) ∙ go (oldest xs x r) (eq_test r x.number) (bd r)
    where
      lower-above : (b : Bool) → is_observed (words_of xs r) ≡ b → taken (cond b (lowered (words_of xs r)) (words_of xs r)) ≡ taken (lowered (words_of xs r))
      lower-above true e = refl
      lower-above false e = let none : words_of xs r ≡ no_slot = unobserved-none xs r e in rw none (sym (taken_none (lowered no_slot) (lowered-counts no_slot)))

      go : Oldest xs x r → Test (r ≡ x.number) (eqb r x.number) → count_of (words_of (xs ++ (x ∷ [])) r) ≤ observed_in (xs ++ (x ∷ [])) r
          → taken (cond (eqb r x.number && is_observed (words_of xs x.number)) (lowered (words_of xs r)) (words_of xs r))
          ≡ cond (eqb r x.number) (taken (lowered (slot_in (xs ++ (x ∷ [])) r))) (slot_in (xs ++ (x ∷ [])) r)
      go (above a b c) (holds p t) l =
          let o : is_observed (words_of xs x.number) ≡ is_observed (words_of xs r) = ap (λ (n : ℕ). is_observed (words_of xs n)) (sym p) in
          rw (t, o) (lower-above (is_observed (words_of xs r)) refl ∙ sym (taken-lowered (words_of xs r)) ∙ ap (λ (w : List ℕ). taken (lowered (taken w))) (sym a))
      go (above a b c) (fails p t) l = rw (t, a)
      go (itself a b c d) (holds p t) l =
          let o : words_of xs x.number ≡ no_slot = ap (λ (n : ℕ). words_of xs n) (sym p) ∙ b in
          rw (t, o, b) (sym (taken-lowered (words_of (xs ++ (x ∷ [])) r) ∙ taken_none (lowered (words_of (xs ++ (x ∷ [])) r)) (lowered-counts (words_of (xs ++ (x ∷ [])) r) ∙ omega arith)))
      go (itself a b c d) (fails p t) l = absurd (p a)

  pub evict-counted : Counted (change lowered x.number xs)
  evict-counted r = rw (change-words lowered lowered_keeps x.number xs r, change-observed lowered lowered_keeps x.number xs r) (go (oldest xs x r) (eq_test r x.number) (bd r))
    where
      lower-above : (b : Bool) → is_observed (words_of xs r) ≡ b → count_of (words_of xs r) ≤ suc (observed_in xs r)
          → count_of (cond b (lowered (words_of xs r)) (words_of xs r)) ≤ observed_in xs r
      lower-above true e l = rw (lowered-counts (words_of xs r)) (omega arith)
      lower-above false e l = let none : words_of xs r ≡ no_slot = unobserved-none xs r e in rw none (omega arith)

      go : Oldest xs x r → Test (r ≡ x.number) (eqb r x.number) → count_of (words_of (xs ++ (x ∷ [])) r) ≤ observed_in (xs ++ (x ∷ [])) r
          → count_of (cond (eqb r x.number && is_observed (words_of xs x.number)) (lowered (words_of xs r)) (words_of xs r)) ≤ observed_in xs r
      go (above a b c) (holds p t) l =
          let m : count_of (words_of xs r) ≤ observed_in (xs ++ (x ∷ [])) r = rw a at l in
          rw (t, ← p) (lower-above (is_observed (words_of xs r)) refl (omega arith))
      go (above a b c) (fails p t) l =
          let m : count_of (words_of xs r) ≤ observed_in (xs ++ (x ∷ [])) r = rw a at l in
          rw t (omega (arith, c p))
      go (itself a b c d) (holds p t) l = rw (t, ← p, b) (omega arith)
      go (itself a b c d) (fails p t) l = absurd (p a)

-- ---- a new key, not yet observed

pub accept_slot : (n : ℕ) (rows : List Row) (r : ℕ) → slot_in (new_row n ∷ rows) r ≡ slot_in rows r
unfolding first_of
accept_slot n rows r = refl

pub accept-counted : (n : ℕ) (rows : List Row) → Counted rows → Counted (new_row n ∷ rows)
unfolding first_of observed_in
accept-counted n rows bd r = bd r

-- ---- the newest key is observed

module _ (x : Row) (words : List ℕ) (xs : List Row) (new : is_observed x.words ≡ false) (seen : is_observed words ≡ true) where
  abbrev observed_row : Row
  observed_row = record { number = x.number; words = words }

  -- its words are the slot of its number, and every other slot stays
  pub observe_slot : (r : ℕ) → slot_in (observed_row ∷ xs) r ≡ cond (eqb r x.number) (taken words) (slot_in (x ∷ xs) r)
  unfolding first_of
  observe_slot r = rw (seen, new) (go (eqb r x.number))
    where
      go : (b : Bool) → taken (cond b words (words_of xs r)) ≡ cond b (taken words) (slot_in xs r)
      go true = refl
      go false = refl

  pub observe-counted : count_of words ≤ suc (count_of (words_of (x ∷ xs) x.number)) → Counted (x ∷ xs) → Counted (observed_row ∷ xs)
  unfolding first_of observed_in
  observe-counted less bd r = rw seen (go (eq_test r x.number) (rw new at (bd r)))
    where
      less' : count_of words ≤ suc (count_of (words_of xs x.number))
      less' = rw new at less

      go : Test (r ≡ x.number) (eqb r x.number) → count_of (words_of xs r) ≤ observed_in xs r
          → count_of (cond (eqb r x.number) words (words_of xs r)) ≤ cond (eqb r x.number) (suc (observed_in xs r)) (observed_in xs r)
      go (holds p t) l = let m : count_of words ≤ suc (count_of (words_of xs r)) = rw (← p) at less' in rw t (omega arith)
      go (fails p t) l = rw t l

-- ---- bounds

pub empty-counted : Counted []
unfolding first_of observed_in
empty-counted r = omega arith

-- there are no more observed rows than rows
pub observed-at-most : (rows : List Row) (r : ℕ) → observed_in rows r ≤ length rows
unfolding observed_in
observed-at-most [] r = omega arith
observed-at-most (x ∷ xs) r = go (holds? r x) (observed-at-most xs r)
  where
    go : (b : Bool) → observed_in xs r ≤ length xs → cond b (suc (observed_in xs r)) (observed_in xs r) ≤ suc (length xs)
    go true l = omega arith
    go false l = omega arith
