-- One reply's counters: the outcome of crate direct is the one that the history's class calls for, in counts, window and seen offsets.
-- Assumes nothing.
use Rattle.std.specs.Prelude.{Some, None, Option}
use mathlib.Core.Path.{◌≡◌, refl, ap, ap₂}
use mathlib.Core.Bool.{Bool, true, false, ◌&&◌, cond}
use mathlib.Core.List.{List, [], ◌∷◌}
use Prim.Native.Nat.{ℕ, ◌+◌, ◌≤◌, ◌<◌}
use native.Mathlib.Omega.{arith}
use lib.Dec.{eqb, ltb}
use lib.ListN.{length}
use Rattle.call_types.specs.declared.CounterPoint.{CounterPoint}
use Rattle.chains.proofs.Tests.{Test, holds, fails, lt_test, eq_test, true_not_false}
use Rattle.direct.specs.declared.Counts.{Counts}
use Rattle.direct.specs.declared.Epoch.{Epoch}
use Rattle.direct.specs.declared.Offsets.{Offsets}
use Rattle.direct.specs.declared.Offsets.TheVariants.{Kept, Begun, Added, Cleared}
use Rattle.direct.specs.declared.Step.{Step}
use Rattle.direct.specs.Outcomes as outcomes
use Rattle.history.specs.Counting.{has}
use Rattle.history.specs.Given.{ordinal_of}
use Rattle.history.specs.DirectLoss.{anchor_of, transmit_offset, seen, highest, jumps, DirectClass, mismatch, zeros, anchors, jump, again, exceeded, reordered, advanced}
use Rattle.history.specs.DirectLoss.{within, on_window, direct_class, next_window, is_observation, is_unavailable, is_discontinuity, is_below, is_exceeded}
use Rattle.observe_history.specs.Direct.{epoch_of, window_of, seen_since}
use Rattle.observe_history.proofs.Windows.{offset-same, jumps-same, latest-highest, anchor_alone, below_more, above_more, not_below}

-- ---- by the class

-- one more where the test holds
abbrev pub raised_by : Bool → ℕ → ℕ
raised_by true n = n + 1
raised_by false n = n

-- the counts after counters of a class
abbrev pub counts_after : DirectClass → Counts → Counts
counts_after x n = record {
  observations = raised_by (is_observation x) n.observations;
  unavailable = raised_by (is_unavailable x) n.unavailable;
  discontinuities = raised_by (is_discontinuity x) n.discontinuities;
  reordered = raised_by (is_below x) n.reordered;
  exceeded = cond (is_exceeded x) true n.exceeded;
}

-- the transmit offset that is looked for
abbrev pub sought : List CounterPoint → CounterPoint → ℕ
sought [] c = 0
sought (d ∷ w) c = transmit_offset (anchor_of d w) c

pub sought-same : (w : List CounterPoint) (c : CounterPoint) → outcomes.sought_in (window_of w) c ≡ sought w c
sought-same [] c = refl
sought-same (d ∷ w) c = offset-same (anchor_of d w).transmitted.0 c.transmitted.0

-- what becomes of the seen offsets
abbrev pub offsets_by : DirectClass → CounterPoint → List CounterPoint → Offsets
offsets_by mismatch c w = Kept
offsets_by zeros c w = Kept
offsets_by anchors c w = Begun
offsets_by jump c w = Cleared
offsets_by again c w = Cleared
offsets_by exceeded c w = Cleared
offsets_by reordered c w = Added (sought w c)
offsets_by advanced c w = Added (sought w c)

module _ (N : ℕ) (c : CounterPoint) where
  -- the outcome that a class calls for
  abbrev pub step_by : DirectClass → List CounterPoint → Counts → Step
  step_by x w n = outcomes.step (counts_after x n) (window_of (next_window N x c w)) (offsets_by x c w)

  module _ (n : Counts) where
    without-anchor : (b : Bool) → outcomes.without_anchor b n c ≡ step_by (cond b zeros anchors) [] n
    unfolding anchor_of
    without-anchor true = refl
    without-anchor false = ap (λ (e : Epoch). outcomes.step (outcomes.one_observed n) (Some e) Begun) (anchor_alone c)

    module _ (d : CounterPoint) (w : List CounterPoint) where
      abbrev a : CounterPoint
      a = anchor_of d w

      with-anchor : (j s f r : Bool) → has (seen a (d ∷ w)) (transmit_offset a c) ≡ s → Test (transmit_offset a c < highest a (d ∷ w)) r
          → outcomes.with_anchor j s f r n (epoch_of a (d ∷ w)) c ≡ step_by (within j s f r) (d ∷ w) n
      unfolding anchor_of
      with-anchor true s f r e t = refl
      with-anchor false true f r e t = refl
      with-anchor false false true r e t = refl
      with-anchor false false false true e (holds p q) =
          ap₂ (λ (x : Epoch) (k : ℕ). outcomes.step (outcomes.one_reordered (outcomes.one_observed n)) (Some x) (Added k)) (below_more a c (d ∷ w) p)
          (offset-same a.transmitted.0 c.transmitted.0)
      with-anchor false false false true e (fails p q) = absurd (true_not_false refl q)
      with-anchor false false false false e (holds p q) = absurd (true_not_false q refl)
      with-anchor false false false false e (fails p q) =
          ap₂ (λ (x : Epoch) (k : ℕ). outcomes.step (outcomes.one_observed n) (Some x) (Added k)) (above_more a c (d ∷ w) (not_below a c d w p e))
          (offset-same a.transmitted.0 c.transmitted.0)

    in_window : (w : List CounterPoint) (seen? : Bool) → seen? ≡ has (seen_since w) (sought w c) → outcomes.in_window N n (window_of w) c seen? ≡ step_by (on_window N c w) w n
    in_window [] seen? e = without-anchor (eqb c.received.0 0 && eqb c.transmitted.0 0)
    in_window (d ∷ w) seen? e =
        rw (
          jumps-same (anchor_of d w) c,
          offset-same (anchor_of d w).transmitted.0 c.transmitted.0,
          offset-same (anchor_of d w).transmitted.0 (epoch_of (anchor_of d w) (d ∷ w)).latest.transmitted.0,
          latest-highest (anchor_of d w) (d ∷ w),
          e,
        )
        (with-anchor d w (jumps (anchor_of d w) c) (has (seen (anchor_of d w) (d ∷ w)) (transmit_offset (anchor_of d w) c)) (eqb (length (d ∷ w)) N)
        (ltb (transmit_offset (anchor_of d w) c) (highest (anchor_of d w) (d ∷ w))) refl (lt_test (transmit_offset (anchor_of d w) c) (highest (anchor_of d w) (d ∷ w))))

    -- THE STEP: what crate direct makes of the counters is what their class in the history calls for.
    pub step_is : (w : List CounterPoint) (o : Option ℕ) (seen? : Bool) → seen? ≡ has (seen_since w) (sought w c)
        → outcomes.recorded N (record { counts = n; window = window_of w }) c o seen? ≡ step_by (direct_class N (ordinal_of o) c w) w n
    unfolding outcomes.recorded direct_class
    step_is w None seen? e = refl
    step_is w (Some m) seen? e = go (eqb c.sender.0 m)
      where
        go : (b : Bool) → outcomes.by_ordinal N b n (window_of w) c seen? ≡ step_by (cond b (on_window N c w) mismatch) w n
        go true = in_window w seen? e
        go false = refl

-- ---- an offset is added only where there is an anchor, and room

abbrev pub RoomFor : ℕ → DirectClass → List CounterPoint → Type 0
RoomFor N mismatch w = Unit {0}
RoomFor N zeros w = Unit {0}
RoomFor N anchors w = Unit {0}
RoomFor N jump w = Unit {0}
RoomFor N again w = Unit {0}
RoomFor N exceeded w = Unit {0}
RoomFor N reordered w = (0 < length w) × (length w < N)
RoomFor N advanced w = (0 < length w) × (length w < N)

module _ (N : ℕ) (c : CounterPoint) where
  room_within : (w : List CounterPoint) (j s f r : Bool) → 0 < length w → length w ≤ N → Test (length w ≡ N) f → RoomFor N (within j s f r) w
  room_within w true s f r more l t = tt
  room_within w false true f r more l t = tt
  room_within w false false true r more l t = tt
  room_within w false false false r more l (holds p q) = absurd (true_not_false q refl)
  room_within w false false false true more l (fails p q) = (more, omega arith)
  room_within w false false false false more l (fails p q) = (more, omega arith)

  room_on : (w : List CounterPoint) → length w ≤ N → RoomFor N (on_window N c w) w
  room_on [] l = go (eqb c.received.0 0 && eqb c.transmitted.0 0)
    where
      go : (b : Bool) → RoomFor N (cond b zeros anchors) []
      go true = tt
      go false = tt
  room_on (d ∷ w) l =
      room_within (d ∷ w) (jumps (anchor_of d w) c) (has (seen (anchor_of d w) (d ∷ w)) (transmit_offset (anchor_of d w) c)) (eqb (length (d ∷ w)) N)
      (ltb (transmit_offset (anchor_of d w) c) (highest (anchor_of d w) (d ∷ w))) (omega arith) l (eq_test (length (d ∷ w)) N)

  pub class_room : (o : Option ℕ) (w : List CounterPoint) → length w ≤ N → RoomFor N (direct_class N o c w) w
  unfolding direct_class
  class_room None w l = tt
  class_room (Some m) w l = go (eqb c.sender.0 m)
    where
      go : (b : Bool) → RoomFor N (cond b (on_window N c w) mismatch) w
      go true = room_on w l
      go false = tt
