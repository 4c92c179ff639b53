-- The counters of a window: what crate direct keeps of them is what crate history says of their list. Assumes nothing.
use mathlib.Core.Path.{◌≡◌, refl, ap}
use mathlib.Core.Bool.{Bool, true, false, ◌||◌, cond}
use mathlib.Core.List.{List, [], ◌∷◌, map}
use Prim.Native.Nat.{ℕ, ◌+◌, ◌-◌, ◌^◌, ◌≤◌, ◌<◌, max}
use native.Mathlib.Omega.{arith}
use native.Mathlib.Numerals.{add-one}
use lib.Dec.{eqb, ltb}
use lib.ListN.{length}
use Rattle.call_types.specs.declared.CounterPoint.{CounterPoint}
use Rattle.chains.proofs.Tests.{Test, holds, fails, eq_test, lt_test, eq_true, true_not_false}
use Rattle.offset_set.specs.Offsets as offset_set
use Rattle.direct.specs.Offsets as direct
use Rattle.direct.specs.Outcomes as outcomes
use Rattle.history.specs.Counting.{has, largest, offset}
use Rattle.history.specs.DirectLoss as history
use Rattle.history.specs.DirectLoss.{seen, highest, sender_maximum, received_maximum, latest}
use Rattle.observe_history.specs.Direct.{epoch_of}

-- ---- one offset, one membership

pub offset-same : (a b : ℕ) → direct.offset a b ≡ offset a b
unfolding direct.offset offset
offset-same a b = refl

pub jumps-same : (a c : CounterPoint) → direct.jumps a c ≡ history.jumps a c
unfolding direct.offset offset
jumps-same a c = refl

pub has_same : (xs : List ℕ) (n : ℕ) → offset_set.has xs n ≡ has xs n
unfolding offset_set.has has
has_same [] n = refl
has_same (x ∷ xs) n = ap (λ (b : Bool). eqb n x || b) (has_same xs n)

pub offset_self : (a : ℕ) → offset a a ≡ 0
unfolding offset
offset_self a = rw (back a)
  where
    back : (a : ℕ) → a + 2 ^ 32 - a ≡ 2 ^ 32
    back a = omega arith

-- ---- the largest

pub max_left : (m n : ℕ) → n ≤ m → max m n ≡ m
max_left m n h = omega arith

pub max_right : (m n : ℕ) → m ≤ n → max m n ≡ n
max_right m n h = omega arith

pub max_swap : (m n : ℕ) → max m n ≡ max n m
max_swap m n = omega arith

pub or_true : (a : Bool) → (a || true) ≡ true
or_true true = refl
or_true false = refl

-- the largest of some is among them
pub largest_in : (x : ℕ) (xs : List ℕ) → has (x ∷ xs) (largest (x ∷ xs)) ≡ true
unfolding has
largest_in x [] = rw (max_left x 0 (omega arith), eq_true x x refl)
largest_in x (y ∷ ys) = go (lt_test x (largest (y ∷ ys))) (largest_in y ys)
  where
    go : Test (x < largest (y ∷ ys)) (ltb x (largest (y ∷ ys))) → has (y ∷ ys) (largest (y ∷ ys)) ≡ true → has (x ∷ y ∷ ys) (max x (largest (y ∷ ys))) ≡ true
    go (holds p e) ih = rw (max_right x (largest (y ∷ ys)) (omega arith), ih, or_true (eqb (largest (y ∷ ys)) x))
    go (fails p e) ih = rw (max_left x (largest (y ∷ ys)) (omega arith), eq_true x x refl)

-- the latest counters have the highest transmit offset
pub latest-highest : (a : CounterPoint) (w : List CounterPoint) → history.transmit_offset a (latest a w) ≡ highest a w
unfolding latest
latest-highest a [] = offset_self a.transmitted.0
latest-highest a (c ∷ w) = go (lt_test (highest a w) (history.transmit_offset a c)) (latest-highest a w)
  where
    go : Test (highest a w < history.transmit_offset a c) (ltb (highest a w) (history.transmit_offset a c)) → history.transmit_offset a (latest a w) ≡ highest a w
        → history.transmit_offset a (cond (ltb (highest a w) (history.transmit_offset a c)) c (latest a w)) ≡ max (history.transmit_offset a c) (highest a w)
    go (holds p e) ih = rw (e, max_left (history.transmit_offset a c) (highest a w) (omega arith))
    go (fails p e) ih = rw (e, ih, max_right (history.transmit_offset a c) (highest a w) (omega arith))

-- ---- one more in the window

-- with the anchor alone
pub anchor_alone : (c : CounterPoint) → outcomes.anchored_at c ≡ epoch_of c (c ∷ [])
unfolding latest received_maximum
anchor_alone c = rw (offset_self c.sender.0, offset_self c.transmitted.0)

module _ (a c : CounterPoint) (w : List CounterPoint) where
  -- below the highest
  pub below_more : history.transmit_offset a c < highest a w → outcomes.below (epoch_of a w) c ≡ epoch_of a (c ∷ w)
  unfolding latest received_maximum
  below_more l = go (lt_test (highest a w) (history.transmit_offset a c))
    where
      go : Test (highest a w < history.transmit_offset a c) (ltb (highest a w) (history.transmit_offset a c)) → outcomes.below (epoch_of a w) c ≡ epoch_of a (c ∷ w)
      go (holds p e) = absurd (omega arith)
      go (fails p e) = rw (e, offset-same a.sender.0 c.sender.0) (λ i. record {
        anchor = a;
        latest = latest a w;
        sender = max_swap (sender_maximum a w) (history.sender_offset a c) i;
        received = received_maximum a w;
        seen = add-one (length w) i;
      })

  -- above it
  pub above_more : highest a w < history.transmit_offset a c → outcomes.above (epoch_of a w) c ≡ epoch_of a (c ∷ w)
  unfolding latest received_maximum
  above_more l = go (lt_test (highest a w) (history.transmit_offset a c))
    where
      go : Test (highest a w < history.transmit_offset a c) (ltb (highest a w) (history.transmit_offset a c)) → outcomes.above (epoch_of a w) c ≡ epoch_of a (c ∷ w)
      go (holds p e) = rw (e, offset-same a.sender.0 c.sender.0, offset-same a.received.0 c.received.0) (λ i. record {
        anchor = a;
        latest = c;
        sender = max_swap (sender_maximum a w) (history.sender_offset a c) i;
        received = max_swap (received_maximum a w) (history.received_offset a c) i;
        seen = add-one (length w) i;
      })
      go (fails p e) = absurd (p l)

-- an offset that is not seen and not below the highest is above it
pub not_below : (a c d : CounterPoint) (w : List CounterPoint) → (history.transmit_offset a c < highest a (d ∷ w) → ⊥)
    → has (seen a (d ∷ w)) (history.transmit_offset a c) ≡ false → highest a (d ∷ w) < history.transmit_offset a c
not_below a c d w l s = go (eq_test (highest a (d ∷ w)) (history.transmit_offset a c))
  where
    go : Test (highest a (d ∷ w) ≡ history.transmit_offset a c) (eqb (highest a (d ∷ w)) (history.transmit_offset a c)) → highest a (d ∷ w) < history.transmit_offset a c
    go (holds q f) = absurd (true_not_false (rw q at (largest_in (history.transmit_offset a d) (map (history.transmit_offset a) w))) s)
    go (fails q f) = omega arith
