-- The loop that walks a chain, for any search: below place b everything is still to be walked, from the link v, which leads to place p.
-- Assumes nothing.
use mathlib.Core.Path.{◌≡◌, refl, sym, ap, ◌∙◌}
use mathlib.Core.Bool.{Bool, true, false}
use Prim.Native.Nat.{ℕ, ◌+◌, ◌≤◌, ◌<◌}
use native.Mathlib.Omega.{arith}
use Rattle.chains.specs.Rings.{wrap}
use Rattle.chains.specs.Walk.{place_of, walk}
use Rattle.chains.proofs.Places.{Placed, place-placed}
use Rattle.chains.proofs.Walks.{walk_here, walk_on, walk_ends, walk-jumps}

module _ (N : ℕ) (same : ℕ → Bool) (older : ℕ → ℕ) (head answer : ℕ) where
  -- `answer` is what the search as a whole answers
  pub record Walking (b v p : ℕ) : Type 0 where
    pub bound : b ≤ N
    pub rest : answer ≡ walk N same older head b v
    pub at : p ≡ place_of N head v

  module _ (b v p : ℕ) (h : head < N) (w : Walking b v p) where
    leads_to : Placed N head v p
    leads_to = rw w.at (place-placed N head v h)

    pub walking_inside : p < b → v < N
    walking_inside l = leads_to.inside (omega (arith, w.bound))

    pub walking_found : (q : Bool) → p < b → q ≡ same v → q ≡ true → v ≡ answer
    walking_found q l e f =
        let here : v ≡ wrap N (head + p) = leads_to.leads (omega (arith, w.bound)) in
        sym (w.rest ∙ walk-jumps N same older head b p v h w.bound l here ∙ walk_here N same older head p v here (sym e ∙ f))

    pub walking_on : (q : Bool) (v' p' : ℕ) → p < b → q ≡ same v → q ≡ false → v' ≡ older v → p' ≡ place_of N head v' → Walking p v' p'
    walking_on q v' p' l e f g k =
        let here : v ≡ wrap N (head + p) = leads_to.leads (omega (arith, w.bound)) in
        record {
          bound = omega (arith, w.bound);
          rest = rw g (w.rest ∙ walk-jumps N same older head b p v h w.bound l here ∙ walk_on N same older head p v here (sym e ∙ f));
          at = k;
        }

    pub walking_ends : b ≤ p → N ≡ answer
    walking_ends l = sym (w.rest ∙ walk_ends N same older head b v (λ i u e. absurd (omega (arith, u, w.bound, leads_to.Only i (omega (arith, u, w.bound)) e))))
