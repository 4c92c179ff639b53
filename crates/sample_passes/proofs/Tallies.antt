-- One sample more: how many keys are below a value.
-- Assumes nothing.
use Rattle.std.proofs.Common.{◌≡◌, ℕ, ◌+◌, ◌^◌, ◌<◌, ltb, List, length, get_or, take, refl, ap, arith}
use Rattle.sample_passes.specs.Counting.{one_if, below}
use Rattle.sample_passes.proofs.Counting.{one_if-most, below_more, below-take-most}

module _ (key : ℕ → ℕ) (v : ℕ) (xs : List ℕ) where
  pub none_yet : 0 ≡ below key v (take 0 xs)
  unfolding below
  none_yet = refl

  module _ (i n k one : ℕ) (e : n ≡ below key v (take i xs)) (f : one ≡ one_if (ltb k v)) where
    pub not_full : (count : ℕ) → i < count → count < 2 ^ 64 → n + one < 2 ^ 64
    not_full count l m = omega (arith, e, f, below-take-most key v xs i, one_if-most (ltb k v), l, m)

    pub one_more : i < length xs → k ≡ key (get_or xs i 0) → n + one ≡ below key v (take (i + 1) xs)
    one_more l g = omega (arith, e, f, ap (λ (x : ℕ). one_if (ltb x v)) g, below_more key v xs i l)
