-- EVERY PROBE THAT WAS REMEMBERED is held, or was evicted answered, or evicted unanswered, or renewed: the numbers add up (document 02, Q-3).
-- Assumes nothing.
use mathlib.Core.Path.{◌≡◌, refl, sym, ap, subst, ◌∙◌}
use mathlib.Core.Bool.{Bool, true, false, not, ◌&&◌}
use mathlib.Core.List.{List, [], ◌∷◌}
use Prim.Native.Nat.{ℕ, zero, suc, ◌+◌, ◌≤◌, ◌<◌}
use native.Mathlib.Omega.{arith}
use lib.Dec.{eqb}
use lib.ListN.{length, take}
use Rattle.chains.proofs.Tests.{Test, holds, fails, eq_test, eq_true, true_not_false}
use Rattle.history.specs.Counting.{tally, has}
use Rattle.history.specs.Ledger.{Event, remembered, replied, observed, rememberings, without, distinct, replies, oldest, held, evicted_unanswered, probes_evicted}
use Rattle.history.specs.Evictions.{evicted_answered, renewed}
use Rattle.reply_history.proofs.Lists.{Once, without_here, without_there, without-absent, has-take, once-distinct, kept-without}

-- ---- lengths

take-fits : (n : ℕ) (xs : List ℕ) → length xs ≤ n → length (take n xs) ≡ length xs
take-fits zero [] l = refl
take-fits zero (x ∷ xs) l = absurd (omega (arith, l))
take-fits (suc n) [] l = refl
take-fits (suc n) (x ∷ xs) l = ap suc (take-fits n xs (omega (arith, l)))

take-full : (n : ℕ) (xs : List ℕ) → length xs ≡ suc n → length (take n xs) ≡ n
take-full zero xs e = refl
take-full (suc n) [] e = absurd (omega (arith, e))
take-full (suc n) (x ∷ xs) e = ap suc (take-full n xs (omega (arith, e)))

take-most : (n : ℕ) (xs : List ℕ) → length (take n xs) ≤ n
take-most zero xs = omega arith
take-most (suc n) [] = omega arith
take-most (suc n) (x ∷ xs) = omega (arith, take-most n xs)

once-take : (n : ℕ) (xs : List ℕ) → Once xs → Once (take n xs)
unfolding Once
once-take zero xs d = tt
once-take (suc n) [] d = tt
once-take (suc n) (x ∷ xs) d = (has-take n xs x d.0, once-take n xs d.1)

-- a number that is there once is taken out once
without_one : (s : ℕ) (xs : List ℕ) → Once xs → has xs s ≡ true → suc (length (without s xs)) ≡ length xs
unfolding Once has
without_one s [] d h = absurd (true_not_false h refl)
without_one s (x ∷ xs) d h = go (eq_test s x) (without_one s xs d.1)
  where
    go : Test (s ≡ x) (eqb s x) → (has xs s ≡ true → suc (length (without s xs)) ≡ length xs) → suc (length (without s (x ∷ xs))) ≡ length (x ∷ xs)
    go (holds p t) ih = ap (λ (l : List ℕ). suc (length l)) (without_here s x xs t ∙ without-absent s xs (subst (λ (y : ℕ). has xs y ≡ false) (sym p) d.0))
    go (fails p t) ih = ap (λ (l : List ℕ). suc (length l)) (without_there s x xs t) ∙ ap suc (ih (rw t at h))

-- ---- one remembering

module _ (n s : ℕ) (xs : List ℕ) where
  -- those held before it
  abbrev before : List ℕ
  before = take (suc n) (distinct xs)

  -- and after it
  abbrev after : List ℕ
  after = take (suc n) (distinct (s ∷ xs))

  after_is : length after ≡ suc (length (take n (without s before)))
  unfolding distinct
  after_is = ap (λ (l : List ℕ). suc (length l)) (sym (kept-without n s xs))

  -- a held one: as many as before
  again : has before s ≡ true → length after ≡ length before
  again h =
      let one : suc (length (without s before)) ≡ length before = without_one s before (once-take (suc n) (distinct xs) (once-distinct xs)) h in
      after_is ∙ ap suc (take-fits n (without s before) (omega (arith, one, take-most (suc n) (distinct xs)))) ∙ one

  -- another one: as many as before where all places are taken, else one more
  new : has before s ≡ false → length after ≡ suc (length (take n before))
  new h = after_is ∙ ap (λ (l : List ℕ). suc (length (take n l))) (without-absent s before h)

  new-full : has before s ≡ false → length before ≡ suc n → length after ≡ length before
  new-full h e = new h ∙ ap suc (take-full n before e) ∙ sym e

  new_room : has before s ≡ false → (length before ≡ suc n → ⊥) → length after ≡ suc (length before)
  new_room h ne = new h ∙ ap suc (take-fits n before (omega (arith, take-most (suc n) (distinct xs), ne)))

-- ---- all of them

-- the four numbers after one more remembering, by its tests: all places taken, its sequence held, the oldest without a reply
one_more : (full known quiet : Bool) (seen before after answered lost again : ℕ)
    → (known ≡ true → after ≡ before) → (known ≡ false → full ≡ true → after ≡ before) → (known ≡ false → full ≡ false → after ≡ suc before)
    → seen ≡ before + answered + lost + again
    → suc seen ≡ after + tally (full && not known && not quiet) answered + tally (full && not known && quiet) lost + tally known again
one_more true true true seen before after answered lost again a b d e = omega (arith, a refl, e)
one_more true true false seen before after answered lost again a b d e = omega (arith, a refl, e)
one_more true false true seen before after answered lost again a b d e = omega (arith, b refl refl, e)
one_more true false false seen before after answered lost again a b d e = omega (arith, b refl refl, e)
one_more false true true seen before after answered lost again a b d e = omega (arith, a refl, e)
one_more false true false seen before after answered lost again a b d e = omega (arith, a refl, e)
one_more false false true seen before after answered lost again a b d e = omega (arith, d refl refl, e)
one_more false false false seen before after answered lost again a b d e = omega (arith, d refl refl, e)

not_equal : (m n : ℕ) → eqb m n ≡ false → m ≡ n → ⊥
not_equal m n e p = true_not_false (eq_true m n p) e

equal : (m n : ℕ) → eqb m n ≡ true → m ≡ n
equal m n e = go (eq_test m n)
  where
    go : Test (m ≡ n) (eqb m n) → m ≡ n
    go (holds p t) = p
    go (fails p t) = absurd (true_not_false e t)

-- where some can be held
held-add_up : (n : ℕ) (es : List Event)
    → length (rememberings es) ≡ length (held (suc n) es) + evicted_answered (suc n) es + evicted_unanswered (suc n) es + renewed (suc n) es
unfolding rememberings held distinct evicted_answered evicted_unanswered renewed
held-add_up n [] = refl
held-add_up n (remembered s o t p ∷ es) =
    let h = take (suc n) (distinct (rememberings es)) in
    one_more (eqb (length h) (suc n)) (has h s) (eqb (replies (oldest s h) es) 0) (length (rememberings es)) (length h) (length (take (suc n) (distinct (s ∷ rememberings es))))
    (evicted_answered (suc n) es) (evicted_unanswered (suc n) es) (renewed (suc n) es)
    (again n s (rememberings es)) (λ k f. new-full n s (rememberings es) k (equal (length h) (suc n) f)) (λ k f. new_room n s (rememberings es) k (not_equal (length h) (suc n) f))
    (held-add_up n es)
held-add_up n (replied k p ∷ es) = held-add_up n es
held-add_up n (observed o ∷ es) = held-add_up n es

-- THE NUMBERS ADD UP, after any events.
pub remembered-add_up : (N : ℕ) → 0 < N → (es : List Event)
    → length (rememberings es) ≡ length (held N es) + evicted_answered N es + evicted_unanswered N es + renewed N es
remembered-add_up zero l es = absurd (omega (arith, l))
remembered-add_up (suc n) l es = held-add_up n es

-- the evicted are those evicted answered and those evicted unanswered
pub evicted-add_up : (N : ℕ) (es : List Event) → probes_evicted N es ≡ evicted_answered N es + evicted_unanswered N es
unfolding probes_evicted evicted_answered evicted_unanswered
evicted-add_up N [] = refl
evicted-add_up N (remembered s o t p ∷ es) =
    go (eqb (length (held N es)) N && not (has (held N es) s)) (eqb (replies (oldest s (held N es)) es) 0) (evicted-add_up N es)
  where
    go : (e q : Bool) → probes_evicted N es ≡ evicted_answered N es + evicted_unanswered N es
        → tally e (probes_evicted N es) ≡ tally (e && not q) (evicted_answered N es) + tally (e && q) (evicted_unanswered N es)
    go true true h = omega (arith, h)
    go true false h = omega (arith, h)
    go false true h = h
    go false false h = h
evicted-add_up N (replied k p ∷ es) = evicted-add_up N es
evicted-add_up N (observed o ∷ es) = evicted-add_up N es
