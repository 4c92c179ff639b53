-- A walk, step by step, on any contents of the rooms.
-- Assumes nothing.
use mathlib.Core.Path.{◌≡◌, refl, sym, ap, ◌∙◌}
use mathlib.Core.Bool.{Bool, true, false, cond}
use mathlib.Core.Logic.{◌≢◌}
use Prim.Native.Nat.{ℕ, zero, suc, ◌+◌, ◌≤◌, ◌<◌}
use native.Mathlib.Omega.{arith}
use lib.Dec.{eqb}
use Rattle.chains.specs.Rings.{wrap}
use Rattle.chains.specs.Walk.{walk}
use Rattle.chains.proofs.Tests.{Test, holds, fails, eq_test}
use Rattle.chains.proofs.Places.{slot_once, wrap-below}

module _ (N : ℕ) (same : ℕ → Bool) (older : ℕ → ℕ) (head : ℕ) where
  pub walk-other : (b v : ℕ) → v ≢ wrap N (head + b) → walk N same older head (suc b) v ≡ walk N same older head b v
  unfolding walk
  walk-other b v ne = go (eq_test v (wrap N (head + b)))
    where
      go : Test (v ≡ wrap N (head + b)) (eqb v (wrap N (head + b))) → walk N same older head (suc b) v ≡ walk N same older head b v
      go (holds p e) = absurd (ne p)
      go (fails p e) = rw e

  pub walk_here : (b v : ℕ) → v ≡ wrap N (head + b) → same v ≡ true → walk N same older head (suc b) v ≡ v
  unfolding walk
  walk_here b v q s = go (eq_test v (wrap N (head + b)))
    where
      go : Test (v ≡ wrap N (head + b)) (eqb v (wrap N (head + b))) → walk N same older head (suc b) v ≡ v
      go (holds p e) = rw (e, ← q, s)
      go (fails p e) = absurd (p q)

  pub walk_on : (b v : ℕ) → v ≡ wrap N (head + b) → same v ≡ false → walk N same older head (suc b) v ≡ walk N same older head b (older v)
  unfolding walk
  walk_on b v q s = go (eq_test v (wrap N (head + b)))
    where
      go : Test (v ≡ wrap N (head + b)) (eqb v (wrap N (head + b))) → walk N same older head (suc b) v ≡ walk N same older head b (older v)
      go (holds p e) = rw (e, ← q, s)
      go (fails p e) = absurd (p q)

  -- a link that leads nowhere below b
  pub walk_ends : (b v : ℕ) → ((i : ℕ) → i < b → v ≢ wrap N (head + i)) → walk N same older head b v ≡ N
  unfolding walk
  walk_ends zero v ne = refl
  walk_ends (suc b) v ne = walk-other b v (ne b (omega arith)) ∙ walk_ends b v (λ i l. ne i (omega arith))

  -- a link to place q below b: the walk goes there at once
  pub walk-jumps : (b q v : ℕ) → head < N → b ≤ N → q < b → v ≡ wrap N (head + q) → walk N same older head b v ≡ walk N same older head (suc q) v
  walk-jumps zero q v h l m e = absurd (omega arith)
  walk-jumps (suc b) q v h l m e = go (eq_test b q) (λ k. walk-jumps b q v h (omega arith) k e)
    where
      go : Test (b ≡ q) (eqb b q) → (q < b → walk N same older head b v ≡ walk N same older head (suc q) v) → walk N same older head (suc b) v ≡ walk N same older head (suc q) v
      go (holds p t) ih = rw p
      go (fails p t) ih = walk-other b v (λ f. p (slot_once N head b q h (omega arith) (omega arith) (sym f ∙ e))) ∙ ih (omega arith)

  -- What a walk finds is there.
  pub data Walked (b r : ℕ) : Type 0 where
    found : (p : ℕ) → p < b → r ≡ wrap N (head + p) → same (wrap N (head + p)) ≡ true → Walked b r
    nothing : r ≡ N → Walked b r

  deeper : (b r : ℕ) → Walked b r → Walked (suc b) r
  deeper b r (found p l e s) = found p (omega arith) e s
  deeper b r (nothing e) = nothing e

  pub walked : (b v : ℕ) → Walked b (walk N same older head b v)
  unfolding walk
  walked zero v = nothing refl
  walked (suc b) v = go (eqb v (wrap N (head + b))) (same (wrap N (head + b))) refl (λ k. walked b k)
    where
      go : (x y : Bool) → same (wrap N (head + b)) ≡ y → ((k : ℕ) → Walked b (walk N same older head b k))
          → Walked (suc b) (cond x (cond y (wrap N (head + b)) (walk N same older head b (older (wrap N (head + b))))) (walk N same older head b v))
      go true true s ih = found b (omega arith) refl s
      go true false s ih = deeper b _ (ih (older (wrap N (head + b))))
      go false y s ih = deeper b _ (ih v)

  -- the answer is a slot, or N
  pub walk-at-most : (b v : ℕ) → head < N → b ≤ N → walk N same older head b v ≤ N
  walk-at-most b v h l = go (walked b v)
    where
      go : {r : ℕ} → Walked b r → r ≤ N
      go (found p m e s) = omega (arith, e, wrap-below N (head + p) (omega arith))
      go (nothing e) = omega (arith, e)
