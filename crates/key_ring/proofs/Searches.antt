-- The two searches as walks, for their loops.
-- Assumes nothing.
use mathlib.Core.Path.{◌≡◌}
use mathlib.Core.List.{List}
use Prim.Native.Nat.{ℕ}
use Rattle.call_types.specs.declared.ReplyKey.{ReplyKey}
use Rattle.chains.specs.declared.Ring.{Ring}
use Rattle.chains.specs.Links.{newest, older}
use Rattle.chains.specs.Walk.{walk}
use Rattle.chains.specs.Hash.{number_hash}
use Rattle.chains.proofs.Loop.{Walking}
use Rattle.key_ring.specs.Keys.{key_at, same_key}
use Rattle.key_ring.specs.Rows.{holds?}
use Rattle.key_ring.specs.Table.{row_at, find_in, holder_in, hash_of, find, holder}

-- the loop of `find`, which began below place b₀ with the link v₀
abbrev pub WalkingKey : List (List ℕ) → List (List ℕ) → ReplyKey → ℕ → ℕ → ℕ → ℕ → ℕ → ℕ → Type 0
WalkingKey keys links k head b₀ v₀ b v p =
    Walking 4096 (λ i. same_key k (key_at keys i)) (older 0 links) head (walk 4096 (λ i. same_key k (key_at keys i)) (older 0 links) head b₀ v₀) b v p

-- the loop of `holder`
abbrev pub WalkingHolder : List (List ℕ) → List (List ℕ) → List (List ℕ) → ℕ → ℕ → ℕ → ℕ → ℕ → ℕ → ℕ → Type 0
WalkingHolder keys slots links r head b₀ v₀ b v p =
    Walking 4096 (λ i. holds? r (row_at keys slots i)) (older 2 links) head (walk 4096 (λ i. holds? r (row_at keys slots i)) (older 2 links) head b₀ v₀) b v p

-- what the whole walk answers
module _ (secret : List ℕ) (keys slots links : List (List ℕ)) (ring : Ring) (h v : ℕ) where
  pub find_walks : (k : ReplyKey) → h ≡ hash_of secret k → v ≡ newest 0 links h
      → walk 4096 (λ i. same_key k (key_at keys i)) (older 0 links) ring.head ring.len v ≡ find secret keys links ring k
  unfolding find_in
  find_walks k e f = rw (f, e)

  pub holder_walks : (r : ℕ) → h ≡ number_hash secret r → v ≡ newest 2 links h
      → walk 4096 (λ i. holds? r (row_at keys slots i)) (older 2 links) ring.head ring.len v ≡ holder secret keys slots links ring r
  unfolding holder_in
  holder_walks r e f = rw (f, e)
