-- What the stores of a unique reply leave: a store changes no word after it, so each count is read as it stood. Assumes nothing.
use Rattle.std.specs.Prelude.{Some, None}
use Rattle.std.proofs.Common.{◌≡◌, ℕ, suc, ◌+◌, ◌^◌, ◌<◌, ◌≤◌, Bool, true, false, cond, not, ◌&&◌, eqb, ltb, List, [], ◌∷◌, length, get_or, set, sym, refl, ap, ◌∙◌, subst, true≢false, arith, get_or-set_other, eqb-true}
use mathlib.Core.Bool.{false≢true}
use lib.Seq.{sets, set-get_or}
use Rattle.limits.specs.Limits.{count_bound}
use Rattle.replies.specs.declared.Replies.{Replies}
use Rattle.replies.specs.Served.{tally, answered_by, step_from, highest_by, highest_after, is_reordered, numbered_by, evicted_by, after_unique}
use Rattle.host_numbers.specs.Numbers.{lower, is_set}
use Rattle.host_ledger.specs.Parts.{reflector_of, reflector_word, replies_at, replies_words}
use Rattle.host_ledger.proofs.Kept.{kept}
use Rattle.host_unique_reply.specs.Stored.{raised, answers_words, order_words, numbers_words, evicted_stored, replies_stored}

-- ---- words that stay

-- from a place on both have the same words
abbrev pub Same : ℕ → List ℕ → List ℕ → Type 0
Same from v w = (i : ℕ) → from ≤ i → get_or v i 0 ≡ get_or w i 0

-- a count that is raised changes no word after it
pub after-raised : (v w : List ℕ) (at : ℕ) (test : Bool) → v ≡ raised w at test → Same (suc at) v w
unfolding raised
after-raised v w at test e i h =
    ap (λ (l : List ℕ). get_or l i 0) e ∙ get_or-set_other w at i (tally test (get_or w at 0)) 0 (λ q. omega (arith, h, q))

after_sets : (xs w : List ℕ) (at i : ℕ) → at + length xs ≤ i → get_or (sets w at xs) i 0 ≡ get_or w i 0
after_sets [] w at i h = refl
after_sets (x ∷ xs) w at i h =
    after_sets xs (set w at x) (suc at) i (omega (arith, h)) ∙ get_or-set_other w at i x 0 (λ q. omega (arith, h, q))

-- a count that stayed is as low as it was
pub still-low : (n m : ℕ) → n ≡ m → m < count_bound → n < count_bound
still-low n m e h = subst (λ (k : ℕ). k < count_bound) (sym e) h

-- one more where the test holds, of a word that had stayed
raised_as : (v w v' : List ℕ) (at : ℕ) (test : Bool) → v' ≡ raised v at test → get_or v at 0 ≡ get_or w at 0 → v' ≡ set v at (tally test (get_or w at 0))
unfolding raised
raised_as v w v' at test e same = e ∙ ap (λ (n : ℕ). set v at (tally test n)) same

-- ---- the answers

module _ (w v₁ v₂ v₃ v₄ : List ℕ) (a b c d : Bool) (e₁ : v₁ ≡ raised w 15 a) (e₂ : v₂ ≡ raised v₁ 16 b) (e₃ : v₃ ≡ raised v₂ 17 c) (e₄ : v₄ ≡ raised v₃ 18 d) where
  same₁ : Same 16 v₁ w
  same₁ = after-raised v₁ w 15 a e₁

  same₂ : Same 17 v₂ w
  same₂ i h = after-raised v₂ v₁ 16 b e₂ i h ∙ same₁ i (omega (arith, h))

  same₃ : Same 18 v₃ w
  same₃ i h = after-raised v₃ v₂ 17 c e₃ i h ∙ same₂ i (omega (arith, h))

  pub four_raised : v₄ ≡ sets w 15 (tally a (get_or w 15 0) ∷ tally b (get_or w 16 0) ∷ tally c (get_or w 17 0) ∷ tally d (get_or w 18 0) ∷ [])
  four_raised =
      raised_as v₃ w v₄ 18 d e₄ (same₃ 18 (omega arith))
      ∙ ap (λ (v : List ℕ). set v 18 (tally d (get_or w 18 0)))
      (raised_as v₂ w v₃ 17 c e₃ (same₂ 17 (omega arith))
      ∙ ap (λ (v : List ℕ). set v 17 (tally c (get_or w 17 0)))
      (raised_as v₁ w v₂ 16 b e₂ (same₁ 16 (omega arith)) ∙ ap (λ (v : List ℕ). set v 16 (tally b (get_or w 16 0))) (raised_as w w v₁ 15 a e₁ refl)))

-- ---- the reflector's number

pub behind_as : (word n x step : ℕ) (there : Bool) → there ≡ is_set word → x ≡ lower word → step ≡ step_from x n
    → (there && not (ltb step (2 ^ 31))) ≡ is_reordered (reflector_of word) n
behind_as word n x step there et ex es =
    (λ i. et i && not (ltb ((es ∙ ap (λ (y : ℕ). step_from y n) ex) i) (2 ^ 31))) ∙ cases (is_set word)
  where
    cases : (b : Bool) → (b && not (ltb (step_from (lower word) n) (2 ^ 31))) ≡ is_reordered (cond b (Some (lower word)) None) n
    cases true = refl
    cases false = refl

-- behind the highest: it stays
stays : (b : Bool) (x n : ℕ) → is_reordered (cond b (Some x) None) n ≡ true → highest_after (cond b (Some x) None) n ≡ Some x
stays false x n e = absurd (false≢true e)
stays true x n e = by (eqb (step_from x n) 0) (not (ltb (step_from x n) (2 ^ 31))) e
  where
    by : (zero back : Bool) → back ≡ true → highest_by zero back x n ≡ Some x
    by true back h = refl
    by false true h = refl
    by false false h = absurd (false≢true h)

no_step : (x n : ℕ) → x < 2 ^ 32 → n < 2 ^ 32 → step_from x n ≡ 0 → x ≡ n
unfolding step_from
no_step x n hx hn h = omega (arith, hx, hn, h)

-- not behind it: the number is the highest, which it may have been
rises : (b : Bool) (x n : ℕ) → x < 2 ^ 32 → n < 2 ^ 32 → is_reordered (cond b (Some x) None) n ≡ false → highest_after (cond b (Some x) None) n ≡ Some n
rises false x n hx hn e = refl
rises true x n hx hn e = by (eqb (step_from x n) 0) (not (ltb (step_from x n) (2 ^ 31))) refl e
  where
    by : (zero back : Bool) → eqb (step_from x n) 0 ≡ zero → back ≡ false → highest_by zero back x n ≡ Some n
    by true back z h = ap (λ (m : ℕ). Some m) (no_step x n hx hn (eqb-true _ _ z))
    by false false z h = refl
    by false true z h = absurd (true≢false h)

module _ (w : List ℕ) (n : ℕ) (behind : Bool) (eb : behind ≡ is_reordered (reflector_of (get_or w 20 0)) n) where
  pub behind-ordered :
      (x a b : ℕ) → behind ≡ true → x ≡ lower (get_or w 20 0) → a ≡ n + 2 ^ 32 → b ≡ x + 2 ^ 32
      → set (set (set w 19 a) 20 b) 21 (get_or w 21 0 + 1) ≡ sets w 19 (order_words w n)
  behind-ordered x a b t ex ea ebx = λ i.
      sets w 19 (ea i
      ∷ (ebx ∙ ap (λ (y : ℕ). y + 2 ^ 32) ex ∙ sym (ap reflector_word (stays (is_set (get_or w 20 0)) (lower (get_or w 20 0)) n (sym eb ∙ t)))) i
      ∷ tally ((sym t ∙ eb) i) (get_or w 21 0)
      ∷ [])

  pub ahead-ordered :
      (a b : ℕ) → n < 2 ^ 32 → behind ≡ false → a ≡ n + 2 ^ 32 → b ≡ n + 2 ^ 32
      → set (set w 19 a) 20 b ≡ sets w 19 (order_words w n)
  ahead-ordered a b hn t ea ebn =
      sym (kept (set (set w 19 a) 20 b) w 21 (after_sets (a ∷ b ∷ []) w 19 21 (omega arith)))
      ∙ (λ i.
      sets w 19 (ea i
      ∷ (ebn ∙ sym (ap reflector_word (rises (is_set (get_or w 20 0)) (lower (get_or w 20 0)) n (low_half (get_or w 20 0)) hn (sym eb ∙ t)))) i
      ∷ tally ((sym t ∙ eb) i) (get_or w 21 0)
      ∷ []))
    where
      low_half : (m : ℕ) → lower m < 2 ^ 32
      low_half m = omega arith

pub order_same : (w v : List ℕ) (n : ℕ) → v ≡ sets w 19 (order_words w n) → Same 22 v w
order_same w v n e i h = ap (λ (l : List ℕ). get_or l i 0) e ∙ after_sets (order_words w n) w 19 i h

pub numbered-as :
    (w v v' : List ℕ) (sender n : ℕ) → v ≡ sets w 19 (order_words w n) → v' ≡ raised v 22 (not (eqb n sender))
    → v' ≡ sets w 19 (numbers_words (numbered_by sender n (replies_at 11 72 w).numbers))
unfolding replies_at
numbered-as w v v' sender n e e' =
    raised_as v w v' 22 (not (eqb n sender)) e' (order_same w v n e 22 (omega arith))
    ∙ ap (λ (l : List ℕ). set l 22 (tally (not (eqb n sender)) (get_or w 22 0))) e

-- ---- what was evicted

module _ (w v₁ v₂ v₃ : List ℕ) (a b c : Bool) (e₁ : v₁ ≡ raised w 23 a) (e₂ : v₂ ≡ raised v₁ 24 b) (e₃ : v₃ ≡ raised v₂ 72 c) where
  same : Same 25 v₂ w
  same i h = after-raised v₂ v₁ 24 b e₂ i h ∙ after-raised v₁ w 23 a e₁ i (omega (arith, h))

  pub evicted_as : v₃ ≡ evicted_stored w (evicted_by a c b (replies_at 11 72 w).evicted)
  unfolding replies_at
  evicted_as =
      raised_as v₂ w v₃ 72 c e₃ (same 72 (omega arith))
      ∙ ap (λ (v : List ℕ). set v 72 (tally c (get_or w 72 0)))
      (raised_as v₁ w v₂ 24 b e₂ (after-raised v₁ w 23 a e₁ 24 (omega arith))
      ∙ ap (λ (v : List ℕ). set v 24 (tally b (get_or w 24 0))) (raised_as w w v₁ 23 a e₁ refl))

-- ---- all of them

answers_same : (v w : List ℕ) → Same 15 v w → (replies_at 11 72 v).answers ≡ (replies_at 11 72 w).answers
unfolding replies_at
answers_same v w s = λ i. record { answered = s 15 (omega arith) i; additional = s 16 (omega arith) i; late = s 17 (omega arith) i; satisfied = s 18 (omega arith) i }

numbers-same : (v w : List ℕ) → Same 19 v w → (replies_at 11 72 v).numbers ≡ (replies_at 11 72 w).numbers
unfolding replies_at
numbers-same v w s = λ i. record {
  last = reflector_of (s 19 (omega arith) i);
  highest = reflector_of (s 20 (omega arith) i);
  reordered = s 21 (omega arith) i;
  independent = s 22 (omega arith) i;
}

evicted-same : (v w : List ℕ) → Same 23 v w → (replies_at 11 72 v).evicted ≡ (replies_at 11 72 w).evicted
unfolding replies_at
evicted-same v w s = λ i. record { probes = s 23 (omega arith) i; replies = s 24 (omega arith) i; unanswered = s 72 (omega arith) i }

-- w the words before, `one` with the total of unique replies raised
module _ (w : List ℕ) where
  abbrev one : List ℕ
  one = set w 12 (get_or w 12 0 + 1)

  abbrev said : Replies
  said = replies_at 11 72 w

  one_same : Same 13 one w
  one_same i h = after_sets ((get_or w 12 0 + 1) ∷ []) w 12 i h

  pub answers_stay : (replies_at 11 72 one).answers ≡ said.answers
  answers_stay = answers_same one w (λ i h. one_same i (omega (arith, h)))

  -- the other totals are stored as they stand
  totals_stay : set (set (set (set w 11 (get_or w 11 0)) 12 (get_or w 12 0 + 1)) 13 (get_or w 13 0)) 14 (get_or w 14 0) ≡ one
  totals_stay =
      ap (λ (v : List ℕ). set (set (set v 12 (get_or w 12 0 + 1)) 13 (get_or w 13 0)) 14 (get_or w 14 0)) (set-get_or w 11 0)
      ∙ ap (λ (v : List ℕ). set v 14 (get_or w 14 0)) (kept one w 13 (one_same 13 (omega arith)))
      ∙ kept one w 14 (one_same 14 (omega arith))

  module _ (before copies : ℕ) (pending : Bool) (v₁ : List ℕ) (e₁ : v₁ ≡ sets one 15 (answers_words (answered_by before copies pending (replies_at 11 72 one).answers))) where
    answered-same : Same 19 v₁ w
    answered-same i h =
        ap (λ (l : List ℕ). get_or l i 0) e₁
        ∙ after_sets (answers_words (answered_by before copies pending (replies_at 11 72 one).answers)) one 15 i h
        ∙ one_same i (omega (arith, h))

    pub numbers_stay : (replies_at 11 72 v₁).numbers ≡ said.numbers
    numbers_stay = numbers-same v₁ w answered-same

    module _ (sender n : ℕ) (v₂ : List ℕ) (e₂ : v₂ ≡ sets v₁ 19 (numbers_words (numbered_by sender n (replies_at 11 72 v₁).numbers))) where
      numbered_same : Same 23 v₂ w
      numbered_same i h =
          ap (λ (l : List ℕ). get_or l i 0) e₂
          ∙ after_sets (numbers_words (numbered_by sender n (replies_at 11 72 v₁).numbers)) v₁ 19 i h
          ∙ answered-same i (omega (arith, h))

      pub evicted_stay : (replies_at 11 72 v₂).evicted ≡ said.evicted
      evicted_stay = evicted-same v₂ w numbered_same

      pub counted-as :
          (probe lost key : Bool) (v₃ : List ℕ) → v₃ ≡ evicted_stored v₂ (evicted_by probe lost key (replies_at 11 72 v₂).evicted)
          → v₃ ≡ replies_stored w (after_unique before copies pending sender n probe lost key said)
      unfolding replies_at replies_words after_unique replies_stored
      counted-as probe lost key v₃ e₃ =
          e₃
          ∙ (λ i. evicted_stored (e₂ i) (evicted_by probe lost key (evicted_stay i)))
          ∙ (λ i. evicted_stored (sets (e₁ i) 19 (numbers_words (numbered_by sender n (numbers_stay i)))) (evicted_by probe lost key said.evicted))
          ∙ (λ i.
          evicted_stored
          (sets (sets (sym totals_stay i) 15 (answers_words (answered_by before copies pending (answers_stay i)))) 19 (numbers_words (numbered_by sender n said.numbers)))
          (evicted_by probe lost key said.evicted))
