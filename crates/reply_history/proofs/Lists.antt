-- Lists of numbers, each once: what is taken out is gone, and of the first n others it is enough to look at n + 1.
-- Assumes nothing.
use mathlib.Core.Path.{◌≡◌, refl, sym, ap, subst}
use mathlib.Core.Bool.{Bool, true, false, ◌||◌, cond}
use mathlib.Core.List.{List, [], ◌∷◌, map}
use Prim.Native.Nat.{ℕ, zero, suc}
use native.Mathlib.Omega.{arith}
use lib.Dec.{eqb}
use lib.ListN.{take}
use lib.Seq.{take-take}
use Rattle.chains.proofs.Tests.{Test, holds, fails, eq_test, eq_true, eq_false, true_not_false}
use Rattle.history.specs.Counting.{has}
use Rattle.history.specs.Ledger.{without, distinct}

pub eqb_same : (n : ℕ) → eqb n n ≡ true
eqb_same n = eq_true n n refl

pub eqb_flip : (m n : ℕ) → eqb m n ≡ eqb n m
eqb_flip m n = go (eq_test m n)
  where
    go : Test (m ≡ n) (eqb m n) → eqb m n ≡ eqb n m
    go (holds p t) = rw (t, eq_true n m (sym p))
    go (fails p t) = rw (t, eq_false n m (λ q. p (sym q)))

or_false : (a b : Bool) → (a || b) ≡ false → (a ≡ false) × (b ≡ false)
or_false true b e = (e, absurd (true_not_false refl e))
or_false false b e = (refl, e)

-- no number stands twice
unfoldable pub Once : List ℕ → Type 0
Once [] = Unit
Once (x ∷ xs) = (has xs x ≡ false) × Once xs

pub without_here : (s x : ℕ) (xs : List ℕ) → eqb s x ≡ true → without s (x ∷ xs) ≡ without s xs
unfolding without
without_here s x xs e = rw e

pub without_there : (s x : ℕ) (xs : List ℕ) → eqb s x ≡ false → without s (x ∷ xs) ≡ x ∷ without s xs
unfolding without
without_there s x xs e = rw e

pub has_tail : (x : ℕ) (xs : List ℕ) (n : ℕ) → has (x ∷ xs) n ≡ false → (eqb n x ≡ false) × (has xs n ≡ false)
unfolding has
has_tail x xs n e = or_false (eqb n x) (has xs n) e

-- a number that is not there is not taken out
pub without-absent : (s : ℕ) (xs : List ℕ) → has xs s ≡ false → without s xs ≡ xs
unfolding without
without-absent s [] e = refl
without-absent s (x ∷ xs) e = let t = has_tail x xs s e in rw t.0 (ap (λ (l : List ℕ). x ∷ l) (without-absent s xs t.1))

pub has-take : (n : ℕ) (xs : List ℕ) (s : ℕ) → has xs s ≡ false → has (take n xs) s ≡ false
unfolding has
has-take zero xs s e = refl
has-take (suc n) [] s e = refl
has-take (suc n) (x ∷ xs) s e = let t = or_false (eqb s x) (has xs s) e in rw t.0 (has-take n xs s t.1)

-- what is taken out is gone, and the rest stays
has-without-same : (s : ℕ) (xs : List ℕ) → has (without s xs) s ≡ false
unfolding has without
has-without-same s [] = refl
has-without-same s (x ∷ xs) = go (eqb s x) refl (has-without-same s xs)
  where
    go : (b : Bool) → eqb s x ≡ b → has (without s xs) s ≡ false → has (cond b (without s xs) (x ∷ without s xs)) s ≡ false
    go true e ih = ih
    go false e ih = rw e ih

has-without-less : (s n : ℕ) (xs : List ℕ) → has xs n ≡ false → has (without s xs) n ≡ false
unfolding has without
has-without-less s n [] e = refl
has-without-less s n (x ∷ xs) e = go (eqb s x) (or_false (eqb n x) (has xs n) e).0 (has-without-less s n xs (or_false (eqb n x) (has xs n) e).1)
  where
    go : (b : Bool) → eqb n x ≡ false → has (without s xs) n ≡ false → has (cond b (without s xs) (x ∷ without s xs)) n ≡ false
    go true t ih = ih
    go false t ih = rw t ih

once-without : (s : ℕ) (xs : List ℕ) → Once xs → Once (without s xs)
unfolding without Once
once-without s [] d = tt
once-without s (x ∷ xs) d = go (eqb s x) (once-without s xs d.1)
  where
    go : (b : Bool) → Once (without s xs) → Once (cond b (without s xs) (x ∷ without s xs))
    go true ih = ih
    go false ih = (has-without-less s x xs d.0, ih)

pub once-distinct : (xs : List ℕ) → Once (distinct xs)
unfolding distinct Once
once-distinct [] = tt
once-distinct (x ∷ xs) = (has-without-same x (distinct xs), once-without x (distinct xs) (once-distinct xs))

-- of the first n others than s, it is enough to look at n + 1
take-without : (n s : ℕ) (xs : List ℕ) → Once xs → take n (without s (take (suc n) xs)) ≡ take n (without s xs)
unfolding Once
take-without n s [] d = refl
take-without n s (x ∷ xs) d = go n (eq_test s x) (λ m. take-without m s xs d.1)
  where
    go : (n : ℕ) → Test (s ≡ x) (eqb s x) → ((m : ℕ) → take m (without s (take (suc m) xs)) ≡ take m (without s xs))
        → take n (without s (x ∷ take n xs)) ≡ take n (without s (x ∷ xs))
    go n (holds p e) ih =
        let gone : has xs s ≡ false = subst (λ (y : ℕ). has xs y ≡ false) (sym p) d.0 in
        rw (without_here s x xs e, without_here s x (take n xs) e, without-absent s xs gone, without-absent s (take n xs) (has-take n xs s gone)) (take-take n n xs (omega arith))
    go zero (fails p e) ih = refl
    go (suc n) (fails p e) ih = rw (without_there s x xs e, without_there s x (take (suc n) xs) e) (ap (λ (l : List ℕ). x ∷ l) (ih n))

-- of the n most recently remembered, it is enough to keep n
pub kept-without : (n s : ℕ) (xs : List ℕ) → take n (without s (take (suc n) (distinct xs))) ≡ take n (without s (distinct xs))
kept-without n s xs = take-without n s (distinct xs) (once-distinct xs)

pub take-map : {A B : Type 0} (f : A → B) (n : ℕ) (xs : List A) → take n (map f xs) ≡ map f (take n xs)
take-map f zero xs = refl
take-map f (suc n) [] = refl
take-map f (suc n) (x ∷ xs) = ap (λ q. f x ∷ q) (take-map f n xs)

-- what is taken is what is taken of the last n
pub take_cons_take : {A : Type 0} (n : ℕ) (x : A) (xs : List A) → take n (x ∷ take n xs) ≡ take n (x ∷ xs)
take_cons_take zero x xs = refl
take_cons_take {A} (suc n) x xs = ap (λ (l : List A). x ∷ l) (take-take n (suc n) xs (omega arith))
