-- After any calls from fresh a collector shows the plain list of the samples that were taken. Assumes nothing.
use mathlib.Core.Path.{◌≡◌, refl, sym, ap, ◌∙◌, subst}
use mathlib.Core.Bool.{Bool, true, false, not, cond, true≢false}
use mathlib.Core.List.{List, [], ◌∷◌}
use Prim.Native.Nat.{ℕ, zero, suc, ◌+◌, ◌-◌, ◌^◌, ◌≤◌, ◌<◌, min, max}
use native.Mathlib.Numerals.{add-one}
use native.Mathlib.Omega.{arith}
use borrow.Author.Tests.{eq-eqb, ne_eqb, ltb-true, ltb-false}
use lib.Dec.{eqb, ltb}
use lib.IntN.{ℤ, pos, ◌+ℤ◌}
use lib.ListN.{length}
use Rattle.limits.specs.Refusals.{wrong_room, counts_full}
use Rattle.delays.specs.declared.Sum.{Sum}
use Rattle.delays.specs.Sums.{total_of, sum_of}
use Rattle.delays.specs.Shown.{total-back}
use Rattle.buckets.specs.Buckets.{pick}
use Rattle.buckets.specs.Signed.{order}
use Rattle.quantiles.specs.declared.Quantiles.{Quantiles}
use Rattle.quantiles.specs.Record.{still, taken, refuses, grown, stored, pick_outcome, recorded}
use Rattle.series.specs.Series.{recorded_beside}
use Rattle.spread.specs.declared.Welford.{Welford}
use Rattle.spread.specs.declared.Jitter.{Jitter}
use Rattle.spread.specs.declared.RttCollector.{RttCollector}
use Rattle.spread.specs.Spread.{apart, welford_from, jitter_of, fresh, fits, grown_of}
use Rattle.spread.specs.Record.{record_to}
use Rattle.spread_meaning.specs.Samples as samples
use Rattle.spread_meaning.specs.Samples.{Shows, total, least, greatest, first, last, differences, steps, played, served}

-- the quantiles that took a sample are grown by it
pub taken-grown : (f : Bool) (q : Quantiles) (room : List ℕ) (v : ℕ) → (recorded_beside f q room v).answer ≡ true → (recorded_beside f q room v).state ≡ grown q v
unfolding recorded_beside recorded still taken
taken-grown f q room v = by (refuses q room v) (not f) (eqb q.count (2 ^ 64 - 1))
  where
    by : (r n e : Bool) → let o = pick_outcome r (still wrong_room q room) (pick_outcome n (still counts_full q room) (pick_outcome r (still wrong_room q room) (pick_outcome e (still 0 q room) (taken (grown q v) (stored q room v))))) in
        o.answer ≡ true → o.state ≡ grown q v
    by true n e h = absurd (true≢false (sym h))
    by false true e h = absurd (true≢false (sym h))
    by false false true h = absurd (true≢false (sym h))
    by false false false h = refl

-- the lesser and the greater of two, as the quantiles pick them
pub lesser : (v m : ℕ) → pick (ltb v m) v m ≡ min m v
lesser v m = by (ltb v m) refl
  where
    below : (v m : ℕ) → v < m → v ≡ min m v
    below v m h = omega arith

    above : (v m : ℕ) → m ≤ v → m ≡ min m v
    above v m h = omega arith

    by : (b : Bool) → ltb v m ≡ b → pick b v m ≡ min m v
    by true e = below v m (ltb-true v m e)
    by false e = above v m (ltb-false v m e)

pub greater : (v m : ℕ) → pick (ltb m v) v m ≡ max m v
greater v m = by (ltb m v) refl
  where
    above : (v m : ℕ) → m < v → v ≡ max m v
    above v m h = omega arith

    below : (v m : ℕ) → v ≤ m → m ≡ max m v
    below v m h = omega arith

    by : (b : Bool) → ltb m v ≡ b → pick b v m ≡ max m v
    by true e = above v m (ltb-true m v e)
    by false e = below v m (ltb-false m v e)

-- one sum more
summed : (s : Sum) (n v : ℕ) → s ≡ sum_of (pos n) → sum_of (total_of s +ℤ pos v) ≡ sum_of (pos (n + v))
summed s n v e = ap (λ (z : ℤ). sum_of (z +ℤ pos v)) (ap total_of e ∙ total-back (pos n))

no_count : (s : RttCollector) → s.quantiles.count ≡ 0 → eqb s.quantiles.count 0 ≡ true
no_count s h = eq-eqb s.quantiles.count 0 h

origin_first : (w : ℕ) (vs : List ℕ) → (steps (w ∷ vs)).origin ≡ first (w ∷ vs)
unfolding steps welford_from
origin_first w vs = refl

-- a sample that was taken
grown-shows : (s : RttCollector) (v : ℕ) (vs : List ℕ) → Shows vs s → Shows (v ∷ vs) (grown_of s (grown s.quantiles v) v)
unfolding grown_of grown total least greatest first last differences steps
grown-shows s v [] h =
    let none = no_count s h.count in
    record {
      count = ap (λ (n : ℕ). n + 1) h.count;
      min = ap (λ (b : Bool). pick b v (pick (ltb (order s.quantiles.signed v) (order s.quantiles.signed s.quantiles.min)) v s.quantiles.min)) none;
      max = ap (λ (b : Bool). pick b v (pick (ltb (order s.quantiles.signed s.quantiles.max) (order s.quantiles.signed v)) v s.quantiles.max)) none;
      sum = summed s.sum 0 v h.sum;
      welford =
          ap (λ (b : Bool). welford_from (pick b v s.welford.origin) s.welford (s.quantiles.count + 1) v) none
          ∙ ap (λ (w : Welford). welford_from v w (s.quantiles.count + 1) v) h.welford
          ∙ ap (λ (n : ℕ). welford_from v (steps []) (n + 1) v) h.count;
      differences = ap (λ (b : Bool). (jitter_of s.jitter b v).sum) none ∙ h.differences;
      pairs = ap (λ (b : Bool). (jitter_of s.jitter b v).count) none ∙ h.pairs;
      last = refl;
      unsigned = h.unsigned;
    }
grown-shows s v (w ∷ vs) h =
    let some : eqb s.quantiles.count 0 ≡ false = ne_eqb s.quantiles.count 0 (λ e. absurd (omega (arith, e, h.count))) in
    record {
      count = add-one s.quantiles.count ∙ ap suc h.count;
      min =
          ap (λ (b : Bool). pick b v (pick (ltb (order s.quantiles.signed v) (order s.quantiles.signed s.quantiles.min)) v s.quantiles.min)) some
          ∙ ap (λ (g : Bool). pick (ltb (order g v) (order g s.quantiles.min)) v s.quantiles.min) h.unsigned
          ∙ lesser v s.quantiles.min
          ∙ ap (λ (m : ℕ). min m v) h.min;
      max =
          ap (λ (b : Bool). pick b v (pick (ltb (order s.quantiles.signed s.quantiles.max) (order s.quantiles.signed v)) v s.quantiles.max)) some
          ∙ ap (λ (g : Bool). pick (ltb (order g s.quantiles.max) (order g v)) v s.quantiles.max) h.unsigned
          ∙ greater v s.quantiles.max
          ∙ ap (λ (m : ℕ). max m v) h.max;
      sum = summed s.sum (total (w ∷ vs)) v h.sum;
      welford =
          ap (λ (b : Bool). welford_from (pick b v s.welford.origin) s.welford (s.quantiles.count + 1) v) some
          ∙ ap (λ (x : Welford). welford_from x.origin x (s.quantiles.count + 1) v) h.welford
          ∙ ap (λ (n : ℕ). welford_from (steps (w ∷ vs)).origin (steps (w ∷ vs)) n v) (add-one s.quantiles.count ∙ ap suc h.count)
          ∙ ap (λ (o : ℕ). welford_from o (steps (w ∷ vs)) (length (v ∷ w ∷ vs)) v) (origin_first w vs);
      differences =
          ap (λ (b : Bool). (jitter_of s.jitter b v).sum) some
          ∙ ap (λ (l : ℕ). sum_of (total_of s.jitter.sum +ℤ pos (apart v l))) h.last
          ∙ summed s.jitter.sum (differences (w ∷ vs)) (apart v w) h.differences;
      pairs = ap (λ (b : Bool). (jitter_of s.jitter b v).count) some ∙ ap (λ (n : ℕ). n + 1) h.pairs ∙ one_more (length vs);
      last = refl;
      unsigned = h.unsigned;
    }
  where
    one_more : (n : ℕ) → (suc n - 1) + 1 ≡ suc (suc n) - 1
    one_more n = omega arith

fresh-shows : Shows [] fresh
unfolding total least greatest last differences steps
fresh-shows = record { count = refl; min = refl; max = refl; sum = refl; welford = refl; differences = refl; pairs = refl; last = refl; unsigned = refl }

-- a call, whatever it answers
call_shows : (s : RttCollector) (room : List ℕ) (v : ℕ) (vs : List ℕ) → Shows vs s → Shows (cond (record_to s room v).answer (v ∷ vs) vs) (record_to s room v).state
unfolding record_to
call_shows s room v vs h =
    let o = recorded_beside (fits s) s.quantiles room v in by o.answer o.state (λ e. taken-grown (fits s) s.quantiles room v e)
  where
    by : (b : Bool) (next : Quantiles) → (b ≡ true → next ≡ grown s.quantiles v) → Shows (cond b (v ∷ vs) vs) (cond b (grown_of s next v) s)
    by true next e = subst (λ (q : Quantiles). Shows (v ∷ vs) (grown_of s q v)) (sym (e refl)) (grown-shows s v vs h)
    by false next e = h

-- ---- the theorem: after any calls from fresh, in any room, each field follows from the samples that were taken, and from nothing else
pub played-shows : (room vs : List ℕ) → Shows (served room vs) (played room vs).state
unfolding played served
played-shows room [] = fresh-shows
played-shows room (v ∷ vs) = call_shows (played room vs).state (played room vs).room v (served room vs) (played-shows room vs)
