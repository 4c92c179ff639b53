-- The window of direct loss (crate history) from the records alone: one number says where it starts. Assumes nothing.
use Rattle.call_types.specs.declared.ReplyObservation.{ReplyObservation}
use Rattle.std.specs.Prelude.{Bool, true, false, cond, List, [], ◌∷◌, ℕ, zero, suc, ◌+◌, ◌-◌, eqb, Some, None, Option}
use Rattle.call_types.specs.declared.CounterPoint.{CounterPoint}
use Rattle.history.specs.Given.{ordinal_of, counters_of}
use Rattle.history.specs.DirectLoss.{DirectClass, mismatch, zeros, anchors, jump, again, exceeded, reordered, advanced, direct_class}

-- counters whose sender count is the ordinal
abbrev pub point_by : Option ℕ → Option CounterPoint → Option CounterPoint
point_by n None = None
point_by None (Some c) = None
point_by (Some n) (Some c) = cond (eqb c.sender.0 n) (Some c) None

-- of a record
abbrev pub point_of : Option ReplyObservation → Option CounterPoint
point_of None = None
point_of (Some o) = point_by (ordinal_of o.ordinal) (counters_of o.counters)

-- before others
abbrev pub join : Option CounterPoint → List CounterPoint → List CounterPoint
join None w = w
join (Some c) w = c ∷ w

-- whether a class leaves an empty window
abbrev pub clears : DirectClass → Bool
clears mismatch = false
clears zeros = true
clears anchors = false
clears jump = true
clears again = true
clears exceeded = true
clears reordered = false
clears advanced = false

-- N: how many offsets are remembered
module _ (N : ℕ) where
  -- whether counters clear a window; a record without any clears nothing
  abbrev pub clears_at : Option ℕ → Option CounterPoint → List CounterPoint → Bool
  clears_at n None w = false
  clears_at n (Some c) w = clears (direct_class N n c w)

  -- of a record
  abbrev pub clears_by : Option ReplyObservation → List CounterPoint → Bool
  clears_by None w = false
  clears_by (Some o) w = clears_at (ordinal_of o.ordinal) (counters_of o.counters) w

-- at: the observation of each record
module _ (at : ℕ → Option ReplyObservation) where
  -- the points of k records from a on, newest first
  unfoldable pub points_from : ℕ → ℕ → List CounterPoint
  points_from a zero = []
  points_from a (suc k) = join (point_of (at (a + k))) (points_from a k)

  module _ (N : ℕ) where
    -- where the window of the first n records starts: past the last that cleared it
    unfoldable pub start_of : ℕ → ℕ
    start_of zero = 0
    start_of (suc n) = cond (clears_by N (at n) (points_from (start_of n) (n - start_of n))) (suc n) (start_of n)

    -- it
    abbrev pub window_in : ℕ → List CounterPoint
    window_in n = points_from (start_of n) (n - start_of n)
