-- Whatever its rank, a percentile of a grown room is within 1/128 of the exact rank's sample: the first and the last rank show the
-- least and the greatest sample. Assumes nothing.
use mathlib.Core.Path.{◌≡◌, refl, sym, ◌∙◌, ap, subst}
use mathlib.Core.Bool.{Bool, true, false}
use mathlib.Core.List.{List, [], ◌∷◌, ◌++◌}
use mathlib.Core.Logic.{⊎_elim}
use Prim.Native.Nat.{ℕ, suc, ◌+◌, ◌-◌, ◌≤◌, ◌<◌}
use native.Mathlib.Nat.{le_trans, lt_of_le_of_lt}
use native.Mathlib.Omega.{arith}
use borrow.Author.Tests.{eq-eqb, ne_eqb}
use lib.Dec.{ltb}
use lib.ListN.{length}
use Rattle.exact_rank.specs.Counting.{one_if, below, KeyOfRank}
use Rattle.exact_rank.proofs.Counting.{one_below, none_below, below_length, one_if-most}
use Rattle.buckets.specs.Buckets.{pick}
use Rattle.buckets.specs.Signed.{order}
use Rattle.buckets.proofs.Facts.{lt_or_ge}
use Rattle.quantiles.specs.declared.Quantiles.{Quantiles}
use Rattle.quantiles.specs.Record.{grown}
use Rattle.quantile_meaning.proofs.Growth.{Around, around-none, around_more}

-- a word is one of the samples
pub data In (x : ℕ) : List ℕ → Type 0 where
  here : {v : ℕ} {vs : List ℕ} → v ≡ x → In x (v ∷ vs)
  there : {v : ℕ} {vs : List ℕ} → In x vs → In x (v ∷ vs)

in_snoc : (x v : ℕ) (vs : List ℕ) → In x vs → In x (vs ++ (v ∷ []))
in_snoc x v [] i = elim i [ ]
in_snoc x v (y ∷ vs) (here e) = here e
in_snoc x v (y ∷ vs) (there i) = there (in_snoc x v vs i)

in_last : (v : ℕ) (vs : List ℕ) → In v (vs ++ (v ∷ []))
in_last v [] = here refl
in_last v (y ∷ vs) = there (in_last v vs)

-- a sample with a key below k is counted below k
in_below : (key : ℕ → ℕ) (x k : ℕ) (vs : List ℕ) → In x vs → key x < k → 0 < below key k vs
unfolding below
in_below key x k [] i h = elim i [ ]
in_below key x k (v ∷ vs) (here e) h = up (one_if (ltb (key v) k)) (below key k vs) (one_below (key v) k (subst (λ (y : ℕ). key y < k) (sym e) h))
  where
    up : (a b : ℕ) → a ≡ 1 → 0 < a + b
    up a b e = omega arith
in_below key x k (v ∷ vs) (there i) h = up (one_if (ltb (key v) k)) (below key k vs) (in_below key x k vs i h)
  where
    up : (a b : ℕ) → 0 < b → 0 < a + b
    up a b e = omega arith

-- one with a key from k on is not
in_above : (key : ℕ → ℕ) (x k : ℕ) (vs : List ℕ) → In x vs → k ≤ key x → below key k vs < length vs
unfolding below
in_above key x k [] i h = elim i [ ]
in_above key x k (v ∷ vs) (here e) h = up (one_if (ltb (key v) k)) (below key k vs) (none_below (key v) k (subst (λ (y : ℕ). k ≤ key y) (sym e) h)) (below_length key k vs)
  where
    up : (a b : ℕ) → a ≡ 0 → b ≤ length vs → a + b < suc (length vs)
    up a b e l = omega arith
in_above key x k (v ∷ vs) (there i) h = up (one_if (ltb (key v) k)) (below key k vs) (one_if-most (ltb (key v) k)) (in_above key x k vs i h)
  where
    up : (a b : ℕ) → a ≤ 1 → b < length vs → a + b < suc (length vs)
    up a b e l = omega arith

-- a sample with none below it has the first rank's key, and one with none above it the last's
pub least_first : (key : ℕ → ℕ) (vs : List ℕ) (x low : ℕ) → In low vs → KeyOfRank key vs 0 (key x) → key x ≤ key low
least_first key vs x low i k = ⊎_elim (λ l. absurd (never (below key (key x) vs) k.few_below (in_below key low (key x) vs i l))) (λ g. g) (lt_or_ge (key low) (key x))
  where
    never : (n : ℕ) → n ≤ 0 → 0 < n → ⊥
    never n a b = omega arith

pub greatest-last : (key : ℕ → ℕ) (vs : List ℕ) (x high : ℕ) → In high vs → KeyOfRank key vs (length vs - 1) (key x) → key high ≤ key x
greatest-last key vs x high i k = ⊎_elim (λ l. absurd (never (below key (key x + 1) vs) (length vs) k.enough_through (in_above key high (key x + 1) vs i (omega arith)))) (λ g. g) (lt_or_ge (key x) (key high))
  where
    never : (n m : ℕ) → m - 1 < n → n < m → ⊥
    never n m a b = omega arith

-- minimum and maximum stay samples
pub record Reached (vs : List ℕ) (q : Quantiles) : Type 0 where
  pub low : In q.min vs
  pub high : In q.max vs

one_of : (t : Bool) (x v : ℕ) (vs : List ℕ) → In x vs → In (pick t v x) (vs ++ (v ∷ []))
one_of true x v vs i = in_last v vs
one_of false x v vs i = in_snoc x v vs i

pub grown_reached : (q : Quantiles) (v : ℕ) (vs : List ℕ) → q.count ≡ length vs → (0 < length vs → Reached vs q) → Reached (vs ++ (v ∷ [])) (grown q v)
unfolding grown
grown_reached q v [] e r = record {
  low = subst (λ (t : Bool). In (pick t v (pick (ltb (order q.signed v) (order q.signed q.min)) v q.min)) (v ∷ [])) (sym (eq-eqb q.count 0 e)) (here refl);
  high = subst (λ (t : Bool). In (pick t v (pick (ltb (order q.signed q.max) (order q.signed v)) v q.max)) (v ∷ [])) (sym (eq-eqb q.count 0 e)) (here refl);
}
grown_reached q v (x ∷ xs) e r = record {
  low =
      subst (λ (t : Bool). In (pick t v (pick (ltb (order q.signed v) (order q.signed q.min)) v q.min)) ((x ∷ xs) ++ (v ∷ []))) (sym (ne_eqb q.count 0 (λ z. some (length xs) (sym e ∙ z))))
      (one_of (ltb (order q.signed v) (order q.signed q.min)) q.min v (x ∷ xs) (r (omega arith)).low);
  high =
      subst (λ (t : Bool). In (pick t v (pick (ltb (order q.signed q.max) (order q.signed v)) v q.max)) ((x ∷ xs) ++ (v ∷ []))) (sym (ne_eqb q.count 0 (λ z. some (length xs) (sym e ∙ z))))
      (one_of (ltb (order q.signed q.max) (order q.signed v)) q.max v (x ∷ xs) (r (omega arith)).high);
}
  where
    some : (n : ℕ) → suc n ≡ 0 → ⊥
    some n e = omega arith

-- no sample lies outside minimum and maximum, so neither does that of a rank
around-low : (s : Bool) (low high k : ℕ) (vs : List ℕ) → Around s low high vs → k ≤ order s low → below (order s) k vs ≡ 0
unfolding below
around-low s low high k [] around-none h = refl
around-low s low high k (v ∷ vs) (around_more a b w) h = ap (λ (n : ℕ). n + below (order s) k vs) (none_below (order s v) k (le_trans h a)) ∙ none' (below (order s) k vs) (around-low s low high k vs w h)
  where
    none' : (x : ℕ) → x ≡ 0 → 0 + x ≡ 0
    none' x e = omega arith

around-high : (s : Bool) (low high k : ℕ) (vs : List ℕ) → Around s low high vs → order s high < k → below (order s) k vs ≡ length vs
unfolding below
around-high s low high k [] around-none h = refl
around-high s low high k (v ∷ vs) (around_more a b w) h = ap (λ (n : ℕ). n + below (order s) k vs) (one_below (order s v) k (lt_of_le_of_lt b h)) ∙ one' (below (order s) k vs) (length vs) (around-high s low high k vs w h)
  where
    one' : (x n : ℕ) → x ≡ n → 1 + x ≡ suc n
    one' x n e = omega arith

pub rank-low : (s : Bool) (low high r x : ℕ) (vs : List ℕ) → Around s low high vs → KeyOfRank (order s) vs r (order s x) → order s low ≤ order s x
rank-low s low high r x vs w k = ⊎_elim (λ l. absurd (never (below (order s) (order s x + 1) vs) (around-low s low high (order s x + 1) vs w (omega arith)) k.enough_through)) (λ g. g) (lt_or_ge (order s x) (order s low))
  where
    never : (n : ℕ) → n ≡ 0 → r < n → ⊥
    never n e l = omega arith

pub rank-high : (s : Bool) (low high r x : ℕ) (vs : List ℕ) → Around s low high vs → r < length vs → KeyOfRank (order s) vs r (order s x) → order s x ≤ order s high
rank-high s low high r x vs w l k = ⊎_elim (λ m. absurd (never (below (order s) (order s x) vs) (length vs) (around-high s low high (order s x) vs w m) k.few_below l)) (λ g. g) (lt_or_ge (order s high) (order s x))
  where
    never : (n m : ℕ) → n ≡ m → n ≤ r → r < m → ⊥
    never n m e a b = omega arith
