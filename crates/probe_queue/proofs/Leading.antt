-- How many of the first entries pass a test, of a list that is given by its entries.
-- Assumes nothing.
use mathlib.Core.Path.{◌≡◌, sym, ap, ◌∙◌}
use mathlib.Core.Bool.{Bool, true, false}
use Prim.Native.Nat.{ℕ, zero, suc, ◌<◌, ◌≤◌, zero-le, suc-le-suc}
use native.Mathlib.Nat.{le_antisymm, le_of_suc-le-suc}
use Rattle.probe_queue.specs.Queue.{choose, tabulate, leading}

module _ {X : Type 0} (test : X → Bool) where
  pub leads : (n : ℕ) (f : ℕ → X) (r : ℕ) → r ≤ n → ((k : ℕ) → k < r → test (f k) ≡ true) → (r < n → test (f r) ≡ false) → r ≡ leading test (tabulate n f)
  leads zero f r l all stop = le_antisymm l zero-le
  leads (suc n) f zero l all stop = sym (ap (λ (t : Bool). choose t (suc (leading test (tabulate n (λ i. f (suc i))))) 0) (stop (suc-le-suc zero-le)))
  leads (suc n) f (suc r) l all stop =
      ap suc (leads n (λ i. f (suc i)) r (le_of_suc-le-suc l) (λ k h. all (suc k) (suc-le-suc h)) (λ h. stop (suc-le-suc h)))
      ∙ sym (ap (λ (t : Bool). choose t (suc (leading test (tabulate n (λ i. f (suc i))))) 0) (all 0 (suc-le-suc zero-le)))
