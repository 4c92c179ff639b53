-- What a ring holds, newest first, and what a push and the leaving of the oldest do to that.
-- Assumes nothing.
use mathlib.Core.Path.{◌≡◌, refl, sym, ap, ap₂, ◌∙◌}
use mathlib.Core.Logic.{◌≢◌}
use mathlib.Core.List.{List, [], ◌∷◌, ◌++◌}
use Prim.Native.Nat.{ℕ, zero, suc, ◌+◌, ◌-◌, ◌≤◌, ◌<◌}
use native.Mathlib.Nat.{add-zero}
use native.Mathlib.Omega.{arith}
use lib.ListN.{length, take}
use lib.Seq.{take_all}
use Rattle.chains.specs.declared.Ring.{Ring}
use Rattle.chains.specs.Rings.{wrap, contents, push_slot, after_push, RingFits}
use Rattle.chains.proofs.Places.{step-wrap, last-place, places_differ, wrap-below, wrap-low, Pushed, room, full, push_is}

module _ {A : Type 0} (N : ℕ) where
  pub length-contents : (at : ℕ → A) (head n : ℕ) → length (contents N at head n) ≡ n
  unfolding contents
  length-contents at head zero = refl
  length-contents at head (suc n) = ap suc (length-contents at head n)

  -- entries that agree below n
  pub contents-same : (at at' : ℕ → A) (head n : ℕ) → ((i : ℕ) → i < n → at' (wrap N (head + i)) ≡ at (wrap N (head + i))) → contents N at' head n ≡ contents N at head n
  unfolding contents
  contents-same at at' head zero e = refl
  contents-same at at' head (suc n) e = ap₂ (λ (x : A) (xs : List A). x ∷ xs) (e n (omega arith)) (contents-same at at' head n (λ i l. e i (omega arith)))

  -- one slot further on: all but the oldest
  pub contents_on : (at : ℕ → A) (head n : ℕ) → head < N → n < N → contents N at (wrap N (suc head)) n ≡ take n (contents N at head (suc n))
  unfolding contents
  contents_on at head zero h l = refl
  contents_on at head (suc n) h l = ap₂ (λ (x : A) (xs : List A). x ∷ xs) (ap at (step-wrap N head n h l)) (contents_on at head n h (omega arith))

  -- the oldest is the last
  pub contents-oldest : (at : ℕ → A) (head n : ℕ) → head < N → n < N → contents N at head (suc n) ≡ contents N at (wrap N (suc head)) n ++ (at head ∷ [])
  unfolding contents
  contents-oldest at head zero h l = rw (add-zero head, wrap-low N head h)
  contents-oldest at head (suc n) h l = ap₂ (λ (x : A) (xs : List A). x ∷ xs) (ap at (sym (step-wrap N head n h l))) (contents-oldest at head n h (omega arith))

  push_room : (at at' : ℕ → A) (head n : ℕ) (k : A) → head < N → n < N → at' (wrap N (head + n)) ≡ k
      → ((i : ℕ) → i ≢ wrap N (head + n) → at' i ≡ at i) → contents N at' head (suc n) ≡ take N (k ∷ contents N at head n)
  unfolding contents
  push_room at at' head n k h l here there =
      rw (here, contents-same at at' head n (λ i m. there (wrap N (head + i)) (places_differ N head i n h m l)), take_all N (k ∷ contents N at head n) (omega (arith, length-contents at head n)))

last_slot : (M head : ℕ) → head < suc M → wrap (suc M) (wrap (suc M) (suc head) + M) ≡ head
last_slot M head h = let e : suc M - 1 ≡ M = omega arith in rw e at (last-place (suc M) head h)

push-full : {A : Type 0} (N : ℕ) (at at' : ℕ → A) (head : ℕ) (k : A) → head < N → at' head ≡ k
    → ((i : ℕ) → i ≢ head → at' i ≡ at i) → contents N at' (wrap N (suc head)) N ≡ take N (k ∷ contents N at head N)
unfolding contents
push-full zero at at' head k h here there = absurd (omega arith)
push-full {A} (suc M) at at' head k h here there =
    ap₂ (λ (x : A) (xs : List A). x ∷ xs) (ap at' (last_slot M head h) ∙ here)
    (contents-same (suc M) at at' (wrap (suc M) (suc head)) M (λ i l. there (wrap (suc M) (wrap (suc M) (suc head) + i))
    (λ q. places_differ (suc M) (wrap (suc M) (suc head)) i M (wrap-below (suc M) (suc head) (omega arith)) l (omega arith) (q ∙ sym (last_slot M head h))))
    ∙ contents_on (suc M) at head M h (omega arith))

-- A push keeps the last N: the new entry stands at the push slot, and nothing else changes.
pub push-contents : {A : Type 0} (N : ℕ) (at at' : ℕ → A) (ring : Ring) (k : A) → RingFits N ring → at' (push_slot N ring) ≡ k
    → ((i : ℕ) → i ≢ push_slot N ring → at' i ≡ at i)
    → contents N at' (after_push N ring).head (after_push N ring).len ≡ take N (k ∷ contents N at ring.head ring.len)
push-contents {A} N at at' ring k fits here there = go (push_is N ring)
  where
    go : Pushed N ring → contents N at' (after_push N ring).head (after_push N ring).len ≡ take N (k ∷ contents N at ring.head ring.len)
    go (room l s h n) = rw (h, n) (push_room N at at' ring.head ring.len k fits.head_in l (rw s at here) (rw s at there))
    go (full l s h n) =
        let all : ring.len ≡ N = omega (arith, fits.len_in) in
        rw (h, n, all) (push-full N at at' ring.head k fits.head_in (rw s at here) (rw s at there))
