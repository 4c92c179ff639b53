-- After any calls from fresh each direction shows the plain list of its own samples that were taken. Assumes nothing.
use mathlib.Core.Path.{◌≡◌, refl, sym, ap, ◌∙◌, subst}
use mathlib.Core.Bool.{Bool, true, false, not, ◌&&◌, cond}
use mathlib.Core.List.{List, [], ◌∷◌}
use Prim.Native.Nat.{ℕ, suc, ◌+◌, ◌<◌, ◌≤◌, min, max}
use native.Mathlib.Numerals.{add-one}
use native.Mathlib.Omega.{arith}
use borrow.Author.Tests.{eq-eqb, ne_eqb}
use lib.Dec.{eqb, ltb}
use lib.IntN.{ℤ, ◌+ℤ◌}
use lib.ListN.{length}
use mir.Syntax.{w64}
use mir.Val.{to_z}
use Rattle.limits.specs.Refusals.{wrong_room}
use Rattle.delays.specs.Sums.{total_of, sum_of}
use Rattle.delays.specs.Shown.{total-back}
use Rattle.buckets.specs.Buckets.{pick}
use Rattle.buckets.specs.Signed.{order}
use Rattle.quantiles.specs.declared.Quantiles.{Quantiles}
use Rattle.quantiles.specs.Record.{grown}
use Rattle.series.specs.Series.{sum_fits, recorded_beside}
use Rattle.directions.specs.declared.OwdDirection.{OwdDirection}
use Rattle.directions.specs.declared.Directions.{Directions}
use Rattle.directions.specs.Direction as direction
use Rattle.directions.specs.Directions as both
use Rattle.spread_meaning.specs.Samples.{least, greatest}
use Rattle.spread_meaning.specs.Ways.{total, Shows, Call, played, is_of, served}
use Rattle.spread_meaning.proofs.Meaning.{taken-grown, lesser, greater}

-- the value of what is picked is picked of the values
pick-order : (b : Bool) (v m : ℕ) → order true (pick b v m) ≡ pick b (order true v) (order true m)
pick-order true v m = refl
pick-order false v m = refl

-- a sample that was taken
grown-shows : (d : OwdDirection) (v : ℕ) (vs : List ℕ) → Shows vs d → Shows (v ∷ vs) (direction.grown_of d (grown d.quantiles v) v)
unfolding grown total least greatest
grown-shows d v [] h =
    let none : eqb d.quantiles.count 0 ≡ true = eq-eqb d.quantiles.count 0 h.count in
    record {
      count = ap (λ (n : ℕ). n + 1) h.count;
      min = ap (λ (b : Bool). order true (pick b v (pick (ltb (order d.quantiles.signed v) (order d.quantiles.signed d.quantiles.min)) v d.quantiles.min))) none;
      max = ap (λ (b : Bool). order true (pick b v (pick (ltb (order d.quantiles.signed d.quantiles.max) (order d.quantiles.signed v)) v d.quantiles.max))) none;
      sum = ap (λ (z : ℤ). sum_of (z +ℤ to_z w64 v)) (ap total_of h.sum ∙ total-back (total []));
      signed = h.signed;
    }
grown-shows d v (w ∷ vs) h =
    let some : eqb d.quantiles.count 0 ≡ false = ne_eqb d.quantiles.count 0 (λ e. absurd (omega (arith, e, h.count))) in
    record {
      count = add-one d.quantiles.count ∙ ap suc h.count;
      min =
          ap (λ (b : Bool). order true (pick b v (pick (ltb (order d.quantiles.signed v) (order d.quantiles.signed d.quantiles.min)) v d.quantiles.min))) some
          ∙ ap (λ (g : Bool). order true (pick (ltb (order g v) (order g d.quantiles.min)) v d.quantiles.min)) h.signed
          ∙ pick-order (ltb (order true v) (order true d.quantiles.min)) v d.quantiles.min
          ∙ lesser (order true v) (order true d.quantiles.min)
          ∙ ap (λ (m : ℕ). min m (order true v)) h.min;
      max =
          ap (λ (b : Bool). order true (pick b v (pick (ltb (order d.quantiles.signed d.quantiles.max) (order d.quantiles.signed v)) v d.quantiles.max))) some
          ∙ ap (λ (g : Bool). order true (pick (ltb (order g d.quantiles.max) (order g v)) v d.quantiles.max)) h.signed
          ∙ pick-order (ltb (order true d.quantiles.max) (order true v)) v d.quantiles.max
          ∙ greater (order true v) (order true d.quantiles.max)
          ∙ ap (λ (m : ℕ). max m (order true v)) h.max;
      sum = ap (λ (z : ℤ). sum_of (z +ℤ to_z w64 v)) (ap total_of h.sum ∙ total-back (total (w ∷ vs)));
      signed = h.signed;
    }

-- a call of its own, whatever it answers
own-shows : (d : OwdDirection) (room : List ℕ) (v : ℕ) (vs : List ℕ) → Shows vs d → Shows (cond (direction.record_to d room v).answer (v ∷ vs) vs) (direction.record_to d room v).state
unfolding direction.record_to
own-shows d room v vs h =
    let o = recorded_beside (sum_fits d.sum) d.quantiles room v in by o.answer o.state (λ e. taken-grown (sum_fits d.sum) d.quantiles room v e)
  where
    by : (b : Bool) (next : Quantiles) → (b ≡ true → next ≡ grown d.quantiles v) → Shows (cond b (v ∷ vs) vs) (cond b (direction.grown_of d next v) d)
    by true next e = subst (λ (q : Quantiles). Shows (v ∷ vs) (direction.grown_of d q v)) (sym (e refl)) (grown-shows d v vs h)
    by false next e = h

-- a call of either
call_shows : (way : Bool) (ds : Directions) (slice : List ℕ) (reverse : Bool) (v : ℕ) (vs : List ℕ) → Shows vs (both.own ds way)
    → Shows (cond (is_of way reverse && (both.record_in ds slice reverse v).answer) (v ∷ vs) vs) (both.own (both.record_in ds slice reverse v).state way)
unfolding both.record_in both.record_part
call_shows way ds slice reverse v vs h = by way reverse (ltb (length slice) (both.part_size + both.part_size)) h
  where
    by : (way reverse short : Bool) → Shows vs (both.own ds way)
        → let o = both.pick_outcome short (both.left wrong_room false ds slice) (both.in_both ds reverse (both.record_part (both.own ds reverse) slice (both.start_of reverse) v)) in
        Shows (cond (is_of way reverse && o.answer) (v ∷ vs) vs) (both.own o.state way)
    by false false true h = h
    by false true true h = h
    by true false true h = h
    by true true true h = h
    by false false false h = own-shows ds.forward (both.part_at 0 slice) v vs h
    by false true false h = h
    by true false false h = h
    by true true false h = own-shows ds.reverse (both.part_at both.part_size slice) v vs h

fresh-shows : (way : Bool) → Shows [] (both.own both.fresh_both way)
unfolding total
fresh-shows false = record { count = refl; min = tt; max = tt; sum = refl; signed = refl }
fresh-shows true = record { count = refl; min = tt; max = tt; sum = refl; signed = refl }

-- ---- the theorem: after any calls from fresh, in any slice, each field of a direction follows from its own samples that were taken
pub played-shows : (way : Bool) (slice : List ℕ) (cs : List Call) → Shows (served way slice cs) (both.own (played slice cs).state way)
unfolding played served
played-shows way slice [] = fresh-shows way
played-shows way slice (c ∷ cs) = call_shows way (played slice cs).state (played slice cs).slice c.reverse c.value (served way slice cs) (played-shows way slice cs)
