-- The accepted keys: found as the history has them, and one more evicts the oldest where there are N.
-- Assumes nothing.
use mathlib.Core.Path.{◌≡◌, refl, ap}
use mathlib.Core.Bool.{Bool, ◌||◌}
use mathlib.Core.List.{List, [], ◌∷◌}
use Prim.Native.Nat.{ℕ, zero, suc, ◌-◌, ◌≤◌, ◌<◌}
use native.Mathlib.Omega.{arith}
use borrow.Author.Tests.{lt-leb, le-leb}
use lib.Dec.{leb, ltb}
use lib.ListN.{length, take}
use lib.Seq.{take_all}
use Rattle.chains.proofs.Tests.{Test, holds, fails, lt_test}
use Rattle.chains.proofs.Contents.{length-contents}
use Rattle.call_types.specs.declared.ReplyKey.{ReplyKey}
use Rattle.key_ring.specs.Keys as ring
use Rattle.key_ring.specs.Keys.{key_at}
use Rattle.key_ring.specs.Table.{Table, keys_of}
use Rattle.replies.specs.Served as replies
use Rattle.history.specs.Ledger.{Event, same_key, has_key, accepted, last_accepted}

-- both searches compare all three parts
pub has_same : (ks : List ReplyKey) (k : ReplyKey) → ring.has_key ks k ≡ has_key ks k
unfolding ring.has_key has_key
has_same [] k = refl
has_same (x ∷ ks) k = ap (λ (b : Bool). same_key k x || b) (has_same ks k)

-- the ring is as long as the list of its keys
keys_length : (N : ℕ) (t : Table) → length (keys_of N t) ≡ t.ring.len
unfolding keys_of
keys_length N t = length-contents N (key_at t.keys) t.ring.head t.ring.len

length-full : {A : Type 0} (n : ℕ) (xs : List A) → n ≤ length xs → length (take n xs) ≡ n
length-full zero xs l = refl
length-full (suc n) [] l = absurd (omega arith)
length-full (suc n) (x ∷ xs) l = ap suc (length-full n xs (omega arith))

-- one more beyond N
beyond : {A : Type 0} (N : ℕ) (xs : List A) → replies.tally (leb N (length (take N xs))) (length xs - N) ≡ suc (length xs) - N
beyond N xs = go (lt_test (length xs) N)
  where
    go : Test (length xs < N) (ltb (length xs) N) → replies.tally (leb N (length (take N xs))) (length xs - N) ≡ suc (length xs) - N
    go (holds l t) = rw (take_all N xs (omega arith), lt-leb N (length xs) l) (omega arith)
    go (fails l t) = rw (length-full N xs (omega arith), le-leb N N (omega arith)) (omega arith)

-- A key more evicts the oldest where N are held.
pub key-evicted : (N : ℕ) (t : Table) (es : List Event) → keys_of N t ≡ last_accepted N es
    → replies.tally (leb N t.ring.len) (length (accepted es) - N) ≡ suc (length (accepted es)) - N
unfolding last_accepted
key-evicted N t es e = rw (← keys_length N t, e) (beyond N (accepted es))
