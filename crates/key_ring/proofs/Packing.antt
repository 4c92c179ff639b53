-- A key in two words: nothing is lost, and comparing both words compares all three parts. And a row's first word with its count lowered.
-- Assumes nothing.
use mathlib.Core.Path.{◌≡◌, sym, subst}
use mathlib.Core.Bool.{true, false, ◌&&◌}
use Prim.Native.Nat.{ℕ, ◌+◌, ◌-◌, ◌*◌, ◌/◌, ◌%◌, ◌<◌}
use native.Mathlib.Omega.{arith}
use lib.Dec.{T, eqb}
use Rattle.call_types.specs.declared.ReplyKey.{ReplyKey}
use Rattle.chains.proofs.Tests.{Test, holds, fails, eq_test, eq_true, eq_false}
use Rattle.key_ring.specs.Keys.{key_of, key_row, numbers_of, same_key}
use Rattle.correlation.specs.Slots.{lower_word}

pub sender_of : (s r : ℕ) → r < 4294967296 → (s * 4294967296 + r) / 4294967296 ≡ s
sender_of s r l = omega arith

pub reflector_of : (s r : ℕ) → r < 4294967296 → (s * 4294967296 + r) % 4294967296 ≡ r
reflector_of s r l = omega arith

-- the key of a key's row is that key
pub key_of_row : (k : ReplyKey) → k.reflector < 4294967296 → key_of (key_row k) ≡ k
key_of_row k l = λ i. record { sender = sender_of k.sender k.reflector l i; reflector = reflector_of k.sender k.reflector l i; t3 = k.t3 }

-- both words are equal exactly if all three parts are
pub same-words : (k : ReplyKey) (word t : ℕ) → k.reflector < 4294967296
    → (eqb (numbers_of k) word && eqb k.t3 t) ≡ (eqb k.sender (word / 4294967296) && eqb k.reflector (word % 4294967296) && eqb k.t3 t)
same-words k word t l = go (eq_test (numbers_of k) word) (eq_test k.sender (word / 4294967296)) (eq_test k.reflector (word % 4294967296))
  where
    go : Test (numbers_of k ≡ word) (eqb (numbers_of k) word) → Test (k.sender ≡ word / 4294967296) (eqb k.sender (word / 4294967296))
        → Test (k.reflector ≡ word % 4294967296) (eqb k.reflector (word % 4294967296))
        → (eqb (numbers_of k) word && eqb k.t3 t) ≡ (eqb k.sender (word / 4294967296) && eqb k.reflector (word % 4294967296) && eqb k.t3 t)
    go (holds p a) (holds q b) (holds s c) = rw (a, b, c)
    go (holds p a) (holds q b) (fails s c) = absurd (s (omega arith))
    go (holds p a) (fails q b) u = absurd (q (omega arith))
    go (fails p a) (holds q b) (holds s c) = absurd (p (omega arith))
    go (fails p a) (holds q b) (fails s c) = rw (a, b, c)
    go (fails p a) (fails q b) u = rw (a, b)

-- equal keys are one
pub same_key_lem : (k x : ReplyKey) → same_key k x ≡ true → k ≡ x
same_key_lem k x e = go (eq_test k.sender x.sender) (eq_test k.reflector x.reflector) (eq_test k.t3 x.t3)
  where
    no_way : false ≡ true → ⊥
    no_way z = subst T (sym z) tt

    go : Test (k.sender ≡ x.sender) (eqb k.sender x.sender) → Test (k.reflector ≡ x.reflector) (eqb k.reflector x.reflector)
        → Test (k.t3 ≡ x.t3) (eqb k.t3 x.t3) → k ≡ x
    go (fails a p) b c = absurd (no_way (rw p at e))
    go (holds a p) (fails b q) c = absurd (no_way (rw (p, q) at e))
    go (holds a p) (holds b q) (fails c r) = absurd (no_way (rw (p, q, r) at e))
    go (holds a p) (holds b q) (holds c r) = λ i. record { sender = a i; reflector = b i; t3 = c i }

-- ---- a row's first word

pub lowered_zero : (word : ℕ) → word % 65536 ≡ 0 → word ≡ lower_word word
lowered_zero word e = rw (eq_true (word % 65536) 0 e)

pub lowered_some : (word : ℕ) → (word % 65536 ≡ 0 → ⊥) → word - 1 ≡ lower_word word
lowered_some word ne = rw (eq_false (word % 65536) 0 ne)

-- the count falls by one, and not below 0; the flags and the rest stay
pub lowered-count : (word : ℕ) → lower_word word % 65536 ≡ word % 65536 - 1
lowered-count word = go (eq_test (word % 65536) 0)
  where
    go : Test (word % 65536 ≡ 0) (eqb (word % 65536) 0) → lower_word word % 65536 ≡ word % 65536 - 1
    go (holds p t) = rw (← lowered_zero word p) (omega arith)
    go (fails p t) = rw (← lowered_some word p) (let some : 0 < word % 65536 = omega arith in omega arith)

pub lowered_rest : (word : ℕ) → lower_word word / 65536 ≡ word / 65536
lowered_rest word = go (eq_test (word % 65536) 0)
  where
    go : Test (word % 65536 ≡ 0) (eqb (word % 65536) 0) → lower_word word / 65536 ≡ word / 65536
    go (holds p t) = rw (← lowered_zero word p)
    go (fails p t) = rw (← lowered_some word p) (let some : 0 < word % 65536 = omega arith in omega arith)
