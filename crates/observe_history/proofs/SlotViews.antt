-- What a raised, a lowered and a corrected slot are in the history's words. Assumes nothing.
use Rattle.std.specs.Prelude.{Option}
use Rattle.correlation.specs.declared.ReplyRecord.{ReplyRecord}
use mathlib.Core.Path.{◌≡◌, refl, sym, ap, ◌∙◌}
use mathlib.Core.Bool.{Bool, true, false, cond}
use mathlib.Core.List.{List}
use Prim.Native.Nat.{ℕ, zero, suc, ◌+◌, ◌-◌, ◌*◌, ◌/◌, ◌%◌, ◌≤◌, ◌<◌}
use native.Mathlib.Omega.{arith}
use native.Mathlib.Numerals.{add-one}
use lib.Dec.{eqb}
use Rattle.estimate.specs.declared.ErrorEstimate.{ErrorEstimate}
use Rattle.estimate.specs.Wire.{bit, estimate_of, wire_of}
use Rattle.chains.proofs.Tests.{Test, holds, fails, eq_test, eq_true, eq_false, lt_true}
use Rattle.correlation.specs.declared.Slot.{Slot}
use Rattle.correlation.specs.Words.{slot_of}
use Rattle.correlation.specs.Slots.{raise_by, raised, lowered, corrected_slot}
use Rattle.key_ring.specs.Rows as rows
use Rattle.key_ring.specs.Rows.{no_slot, count_of}
use Rattle.key_ring.proofs.Meaning.{slot_count, no_slot_lem, slot_lowered}
use Rattle.history.specs.FollowUps as history
use Rattle.history.specs.FollowUps.{Kept, free, taken, raise, lower, correct}
use Rattle.observe_history.specs.FollowUps.{kept_of, slot_from}

-- ---- by the count

abbrev from_by : Bool → Slot → history.Slot
from_by b s = cond b free (taken s.count (kept_of s.unique) s.corrected)

-- words of count 0 are no slot, and both are free
pub view_taken : (words : List ℕ) → slot_from (slot_of (rows.taken words)) ≡ slot_from (slot_of words)
view_taken words = go (eq_test (count_of words) 0)
  where
    go : Test (count_of words ≡ 0) (eqb (count_of words) 0) → slot_from (slot_of (rows.taken words)) ≡ slot_from (slot_of words)
    go (holds p t) =
        ap (λ (w : List ℕ). slot_from (slot_of w)) (ap (λ (b : Bool). cond b no_slot words) t)
        ∙ ap (λ (b : Bool). from_by b (slot_of no_slot)) (eq_true (slot_of no_slot).count 0 no_slot_lem)
        ∙ sym (ap (λ (b : Bool). from_by b (slot_of words)) (eq_true (slot_of words).count 0 (slot_count words ∙ p)))
    go (fails p t) = ap (λ (w : List ℕ). slot_from (slot_of w)) (ap (λ (b : Bool). cond b no_slot words) t)

-- "lowers by one the correlation slot, if there is one; at 0 the slot is free"
lower-count : (n : ℕ) (k : Option Kept) (c : Bool) → cond (eqb (n - 1) 0) free (taken (n - 1) k c) ≡ lower (cond (eqb n 0) free (taken n k c))
lower-count zero k c = refl
lower-count (suc zero) k c = refl
lower-count (suc (suc n)) k c =
    let less : suc (suc n) - 1 ≡ suc n = omega arith in
    rw (less, eq_false (suc n) 0 (λ e. omega (arith, e)), eq_false (suc (suc n)) 0 (λ e. omega (arith, e)))

pub view_lowered : (s : Slot) → slot_from (lowered s) ≡ lower (slot_from s)
view_lowered s = lower-count s.count (kept_of s.unique) s.corrected

-- a lowered row
pub view_row_lowered : (words : List ℕ) → slot_from (slot_of (rows.taken (rows.lowered words))) ≡ lower (slot_from (slot_of words))
view_row_lowered words = view_taken (rows.lowered words) ∙ ap slot_from (slot_lowered words) ∙ view_lowered (slot_of words)

-- a matched follow-up corrects it
pub view_corrected : (s : Slot) → slot_from (corrected_slot s) ≡ correct (slot_from s)
view_corrected s = go (eqb s.count 0)
  where
    go : (b : Bool) → cond b free (taken s.count (kept_of s.unique) true) ≡ correct (cond b free (taken s.count (kept_of s.unique) s.corrected))
    go true = refl
    go false = refl

-- "if there is none, one is made with count 1, not corrected"; "if there is one, its count rises and its record is dropped for good"
pub view_raised : (s : Slot) (u : Option ReplyRecord) → s.count < 65535 → slot_from (raised s u) ≡ raise (kept_of u) (slot_from s)
unfolding raised
view_raised s u l = go (eq_test s.count 0)
  where
    go : Test (s.count ≡ 0) (eqb s.count 0) → slot_from (raise_by (eqb s.count 0) s u) ≡ raise (kept_of u) (slot_from s)
    go (holds p t) = rw t
    go (fails p t) = rw (t, lt_true s.count 65535 l, add-one s.count, eq_false (suc s.count) 0 (λ e. omega (arith, e)))

pub count-raised : (s : Slot) (u : Option ReplyRecord) → s.count < 65535 → ((raised s u).count < 65536) × ((raised s u).count ≤ suc s.count)
unfolding raised
count-raised s u l = go (eqb s.count 0)
  where
    go : (b : Bool) → ((raise_by b s u).count < 65536) × ((raise_by b s u).count ≤ suc s.count)
    go true = (omega arith, omega arith)
    go false = rw (lt_true s.count 65535 l) (omega arith, omega arith)

pub observed-raised : (s : Slot) (u : Option ReplyRecord) → (raised s u).observed ≡ true
unfolding raised
observed-raised s u = go (eqb s.count 0)
  where
    go : (b : Bool) → (raise_by b s u).observed ≡ true
    go true = refl
    go false = refl

-- ---- the record that an observation leaves

bit_below : (b : Bool) → bit b < 2
bit_below true = omega arith
bit_below false = omega arith

is_bit : (b : Bool) (n : ℕ) → n ≡ bit b → eqb n 1 ≡ b
is_bit true n h = eq_true n 1 h
is_bit false n h = eq_false n 1 (λ e. omega (arith, e, h))

module _ (a b s m : ℕ) (ha : a < 2) (hb : b < 2) (hs : s < 64) (hm : m < 256) where
  abbrev word : ℕ
  word = a * 32768 + b * 16384 + s % 64 * 256 + m

  at_15 : word / 32768 % 2 ≡ a
  at_15 = omega arith

  at_14 : word / 16384 % 2 ≡ b
  at_14 = omega arith

  at_8 : word / 256 % 64 ≡ s
  at_8 = omega arith

  at_0 : word % 256 ≡ m
  at_0 = omega arith

  word_below : word < 65536
  word_below = omega arith

-- every estimate in range survives the wire
pub wire_back : (e : ErrorEstimate) → e.scale < 64 → e.multiplier < 256 → estimate_of (wire_of e) ≡ e
wire_back e hs hm = λ i. record {
  synchronized = is_bit e.synchronized _ (at_15 (bit e.synchronized) (bit e.ptp) e.scale e.multiplier (bit_below e.synchronized) (bit_below e.ptp) hs hm) i;
  ptp = is_bit e.ptp _ (at_14 (bit e.synchronized) (bit e.ptp) e.scale e.multiplier (bit_below e.synchronized) (bit_below e.ptp) hs hm) i;
  scale = at_8 (bit e.synchronized) (bit e.ptp) e.scale e.multiplier (bit_below e.synchronized) (bit_below e.ptp) hs hm i;
  multiplier = at_0 (bit e.synchronized) (bit e.ptp) e.scale e.multiplier (bit_below e.synchronized) (bit_below e.ptp) hs hm i;
}

pub wire_below : (e : ErrorEstimate) → e.scale < 64 → e.multiplier < 256 → wire_of e < 65536
wire_below e hs hm = word_below (bit e.synchronized) (bit e.ptp) e.scale e.multiplier (bit_below e.synchronized) (bit_below e.ptp) hs hm
