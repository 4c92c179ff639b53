-- The record that a served observation leaves: it fits its words, and is the history's. Assumes nothing.
use Rattle.std.specs.Prelude.{Some, None, Option}
use mathlib.Core.Path.{◌≡◌, refl, ap, ap₂}
use mathlib.Core.Bool.{Bool, true, false, ◌&&◌, cond}
use Prim.Native.Nat.{ℕ, ◌≤◌, ◌<◌}
use native.Mathlib.Omega.{arith}
use lib.Dec.{eqb, ltb}
use lib.IntN.{ℤ, nat_abs}
use borrow.Author.Tests.{leb-true}
use mir.Syntax.{w64}
use mir.Val.{SFits}
use Rattle.estimate.specs.declared.ErrorEstimate.{ErrorEstimate}
use Rattle.call_types.specs.declared.ReplyObservation.{ReplyObservation}
use Rattle.chains.proofs.Tests.{true_not_false}
use Rattle.ranges.specs.Ranges.{time_fits, reference_within, offset_within, scale_within, estimates_fit, in_range}
use Rattle.correlation.specs.Slots.{withheld, recorded}
use Rattle.correlation.proofs.Back.{TimeFits, WiresFit, RecordFits}
use Rattle.correlation.proofs.Span.{under}
use Rattle.follow_ups.specs.Followed.{wires_of}
use Rattle.history.specs.Given as given
use Rattle.history.specs.Given.{EstimatePair}
use Rattle.history.specs.FollowUps.{record_of}
use Rattle.ledger_steps.specs.Observe.{record_from, unique_from}
use Rattle.observe_history.specs.FollowUps.{pair_of, kept_of, QualityFits}
use Rattle.observe_history.proofs.SlotViews.{wire_back, wire_below}

-- ---- what the range tests say

both : (a b : Bool) → (a && b) ≡ true → (a ≡ true) × (b ≡ true)
both true true e = (refl, refl)
both true false e = absurd (true_not_false e refl)
both false b e = absurd (true_not_false e refl)

pub record Ranged (o : ReplyObservation) : Type 0 where
  pub t4 : time_fits o.t4 ≡ true
  pub reference : reference_within o.reference ≡ true
  pub quality : estimates_fit o.quality ≡ true

pub in_range_lem : (o : ReplyObservation) → in_range o ≡ true → Ranged o
unfolding in_range
in_range_lem o e =
    let b = both _ (estimates_fit o.quality) e in
    let c = both _ (offset_within o.offset) b.0 in
    let d = both (time_fits o.t4) (reference_within o.reference) c.0 in
    record { t4 = d.0; reference = d.1; quality = b.1 }

scale_below : (e : ErrorEstimate) → scale_within e ≡ true → e.scale < 64
scale_below e h = let l : e.scale ≤ 63 = leb-true e.scale 63 h in omega arith

time-fits : (t : Option ℤ) → time_fits t ≡ true → TimeFits t
time-fits None e = tt
time-fits (Some z) e = let l : nat_abs z ≤ 4000000000000000000 = leb-true (nat_abs z) 4000000000000000000 e in (under z (omega arith), e)

reference-fits : (z : ℤ) → reference_within z ≡ true → SFits w64 z
reference-fits z e = let l : nat_abs z ≤ 4000000000 = leb-true (nat_abs z) 4000000000 e in under z (omega arith)

wires_fit : (q : Option (ErrorEstimate × ErrorEstimate)) → estimates_fit q ≡ true → QualityFits q → WiresFit (wires_of q)
wires_fit None e f = tt
wires_fit (Some (s, r)) e f =
    let b = both (scale_within s) (scale_within r) e in
    (wire_below s (scale_below s b.0) f.0, wire_below r (scale_below r b.1) f.1)

-- the estimates survive their wires
wires-say : (q : Option (ErrorEstimate × ErrorEstimate)) → estimates_fit q ≡ true → QualityFits q → pair_of (wires_of q) ≡ given.estimates_of q
wires-say None e f = refl
wires-say (Some (s, r)) e f =
    let b = both (scale_within s) (scale_within r) e in
    ap₂ (λ (x y : ErrorEstimate). Some (record { sender = x; reflector = y })) (wire_back s (scale_below s b.0) f.0) (wire_back r (scale_below r b.1) f.1)

module _ (copies : ℕ) (o : ReplyObservation) (h : in_range o ≡ true) (f : QualityFits o.quality) where
  ranged : Ranged o
  ranged = in_range_lem o h

  pub record-fits : RecordFits (unique_from copies o)
  record-fits = go (withheld copies o.key.sender o.key.reflector)
    where
      go : (b : Bool) → RecordFits (recorded b (record_from o))
      go true = tt
      go false = (time-fits o.t4 ranged.t4, wires_fit o.quality ranged.quality f, reference-fits o.reference ranged.reference)

  -- "Its record is withheld if copies exceed 1 and sender equals reflector."
  pub record_is : kept_of (unique_from copies o) ≡ record_of copies o
  record_is = go (ltb 1 copies && eqb o.key.sender o.key.reflector)
    where
      go : (b : Bool) → kept_of (recorded b (record_from o))
          ≡ cond b None (Some (record { t4 = given.time_of o.t4; format = o.format; reference = o.reference; quality = given.estimates_of o.quality }))
      go true = refl
      go false = ap (λ (q : Option EstimatePair). Some (record { t4 = given.time_of o.t4; format = o.format; reference = o.reference; quality = q })) (wires-say o.quality ranged.quality f)
