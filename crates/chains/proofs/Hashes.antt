-- A hash is below 4,096, whatever the secret words are.
-- Assumes nothing.
use Prim.Native.Nat.{ℕ, ◌<◌}
use mathlib.Core.List.{List}
use native.Mathlib.Nat.{mod-lt}
use native.Mathlib.Omega.{arith}
use Rattle.chains.specs.Hash.{key_hash, number_hash}

pub key_hash-below : (secret : List ℕ) (a b : ℕ) → key_hash secret a b < 4096
unfolding key_hash
key_hash-below secret a b = mod-lt _ (omega arith)

pub number_hash-below : (secret : List ℕ) (n : ℕ) → number_hash secret n < 4096
unfolding number_hash
number_hash-below secret n = mod-lt _ (omega arith)
