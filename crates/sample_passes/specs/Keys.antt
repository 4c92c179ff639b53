-- The keys by which samples are ordered.
use Rattle.std.specs.Prelude.{ℕ, ◌+◌, ◌%◌, ◌^◌, ◌<◌, ◌≤◌, List, slice_index}

-- a key whose order starts at the sample 2^64 - bias and goes round
abbrev pub shifted : ℕ → ℕ → ℕ
shifted bias x = (x + bias) % 2 ^ 64

-- no sample has a lower key than the one before it
abbrev pub InOrder : (ℕ → ℕ) → List ℕ → ℕ → Type 0
InOrder key samples count = (k : ℕ) → k + 1 < count → key (slice_index samples k) ≤ key (slice_index samples (k + 1))

-- no sample has a higher key than the one before it
abbrev pub InReverse : (ℕ → ℕ) → List ℕ → ℕ → Type 0
InReverse key samples count = (k : ℕ) → k + 1 < count → key (slice_index samples (k + 1)) ≤ key (slice_index samples k)
