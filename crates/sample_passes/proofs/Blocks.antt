-- What holds of each index below b, and of the w from b, holds of each below b + w.
-- Assumes nothing.
use Rattle.std.proofs.Common.{ℕ, ◌+◌, ◌-◌, ◌<◌, subst, ⊎_elim, add-sub_of_le, arith}
use Rattle.sample_passes.proofs.Counting.{lt_or_le}

pub below-block : (P : ℕ → Type 0) (b w : ℕ) → ((k : ℕ) → k < b → P k) → ((k : ℕ) → k < w → P (b + k)) → (k : ℕ) → k < b + w → P k
below-block P b w all here k l =
    ⊎_elim
    (λ p. all k p)
    (λ z. subst P (add-sub_of_le {n = k} {m = b} z) (here (k - b) (omega (arith, l, z))))
    (lt_or_le k b)
