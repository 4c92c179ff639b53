-- The round trips after one record more. Assumes nothing.
use Rattle.std.specs.Prelude.{Some, None, Option}
use Rattle.call_types.specs.declared.ReplyObservation.{ReplyObservation}
use mathlib.Core.Path.{◌≡◌, refl, ap}
use mathlib.Core.Bool.{Bool, true, false, cond}
use mathlib.Core.List.{List, [], ◌∷◌}
use Prim.Native.Nat.{ℕ, suc, ◌+◌, ◌≤◌}
use native.Mathlib.Omega.{arith}
use lib.Dec.{ltb}
use lib.IntN.{ℤ, pos, negsuc}
use lib.ListN.{length}
use Rattle.history.specs.Ledger.{Event, remembered, replied, observed}
use Rattle.history.specs.FollowUps.{round_trips}
use Rattle.history.specs.Figures.{lesser, greater, with, least, greatest}
use Rattle.report.specs.declared.figures.RoundTrip.{RoundTrip}
use Rattle.recount_seen.specs.Seen.{events_of}
use Rattle.recount_observed.specs.Observed.{observation_at}
use Rattle.recount_observed.proofs.Laws.{observed-turn}
use Rattle.recount_trips.specs.Trips.{value_of, trips_of, shorter, longer, trips_with, trips_next}

-- ---- a round trip is not negative

abbrev Natural : Option ℤ → Type 0
Natural None = Unit {0}
Natural (Some (pos n)) = Unit {0}
Natural (Some (negsuc n)) = ⊥

pick_natural : (b : Bool) (m n : ℕ) → Natural (Some (cond b (pos m) (pos n)))
pick_natural true m n = tt
pick_natural false m n = tt

with-lesser : (m : Option ℤ) (k : ℕ) → Natural m → Natural (with lesser m (pos k))
with-lesser None k h = tt
with-lesser (Some (pos n)) k h = pick_natural (ltb k n) k n
with-lesser (Some (negsuc n)) k h = absurd h

with-greater : (m : Option ℤ) (k : ℕ) → Natural m → Natural (with greater m (pos k))
with-greater None k h = tt
with-greater (Some (pos n)) k h = pick_natural (ltb n k) k n
with-greater (Some (negsuc n)) k h = absurd h

least_natural : (es : List Event) → Natural (least (round_trips es))
unfolding round_trips least
least_natural [] = tt
least_natural (remembered s o t p ∷ es) = least_natural es
least_natural (replied k p ∷ es) = least_natural es
least_natural (observed o ∷ es) = with-lesser (least (round_trips es)) o.rtt (least_natural es)

greatest_natural : (es : List Event) → Natural (greatest (round_trips es))
unfolding round_trips greatest
greatest_natural [] = tt
greatest_natural (remembered s o t p ∷ es) = greatest_natural es
greatest_natural (replied k p ∷ es) = greatest_natural es
greatest_natural (observed o ∷ es) = with-greater (greatest (round_trips es)) o.rtt (greatest_natural es)

-- ---- one more

pick-value : (b : Bool) (m n : ℕ) → value_of (Some (cond b (pos m) (pos n))) ≡ cond b (Some m) (Some n)
pick-value true m n = refl
pick-value false m n = refl

shorter_is : (m : Option ℤ) (k : ℕ) → Natural m → value_of (with lesser m (pos k)) ≡ shorter (value_of m) k
shorter_is None k h = refl
shorter_is (Some (pos n)) k h = pick-value (ltb k n) k n
shorter_is (Some (negsuc n)) k h = absurd h

longer_is : (m : Option ℤ) (k : ℕ) → Natural m → value_of (with greater m (pos k)) ≡ longer (value_of m) k
longer_is None k h = refl
longer_is (Some (pos n)) k h = pick-value (ltb n k) k n
longer_is (Some (negsuc n)) k h = absurd h

one_more : (k : ℕ) (es : List Event) → trips_of (pos k ∷ round_trips es) ≡ trips_with k (trips_of (round_trips es))
unfolding least greatest
one_more k es =
    let one : suc (length (round_trips es)) ≡ length (round_trips es) + 1 = omega arith in
    let a = shorter_is (least (round_trips es)) k (least_natural es) in
    let b = longer_is (greatest (round_trips es)) k (greatest_natural es) in
    λ i. record { samples = one i; min = a i; max = b i }

-- ---- the loop

pub trips-start : (log marks : List ℕ) → record { samples = 0; min = None; max = None } ≡ trips_of (round_trips (events_of log marks 0))
unfolding events_of round_trips least greatest
trips-start log marks = refl

pub trips-turn : (log marks : List ℕ) (n : ℕ) (x : Option ReplyObservation) (t t' : RoundTrip) → x ≡ observation_at log marks n → t' ≡ trips_next x t
    → t ≡ trips_of (round_trips (events_of log marks n)) → t' ≡ trips_of (round_trips (events_of log marks (n + 1)))
unfolding round_trips
trips-turn log marks =
    observed-turn (λ es. trips_of (round_trips es)) trips_next (λ t. refl) (λ s o t p es. refl) (λ k p es. refl) (λ o es. one_more o.rtt es) log marks

next-most : (x : Option ReplyObservation) (t : RoundTrip) (m : ℕ) → t.samples ≤ m → (trips_next x t).samples ≤ m + 1
next-most None t m l = omega arith
next-most (Some o) t m l = omega arith

pub trips-most : (x : Option ReplyObservation) (t t' : RoundTrip) (m : ℕ) → t' ≡ trips_next x t → t.samples ≤ m → t'.samples ≤ m + 1
trips-most x t t' m e l = omega (arith, ap (λ (y : RoundTrip). y.samples) e, next-most x t m l)
