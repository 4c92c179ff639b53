-- What the proofs of the functions cite: on each way, what is answered is what the definition says, and what is left untouched. Assumes nothing.
use mathlib.Core.Path.{◌≡◌, refl, sym, ap, ◌∙◌, subst}
use mathlib.Core.Bool.{Bool, true, false, cond}
use mathlib.Core.List.{List, ◌++◌}
use Prim.Native.Nat.{ℕ, ◌+◌, ◌-◌, ◌^◌, ◌≤◌, ◌<◌}
use native.Mathlib.Omega.{arith}
use borrow.Author.Tests.{lt-ltb, le-ltb}
use borrow.Rule.Slice.PartMut.{same_len_mid}
use lib.Dec.{T, ltb, ltb→lt}
use lib.IntN.{ℤ, ◌+ℤ◌}
use lib.ListN.{length, take, drop, length-drop, take-append-drop}
use lib.Seq.{length-take-le, take_at, drop_at, drop-drop}
use mir.Syntax.{w64}
use mir.Val.{to_z}
use Rattle.std.specs.Prelude.{Option, Some, None, Result, Ok, Err}
use Rattle.limits.specs.declared.Refusal.{Refusal}
use Rattle.limits.specs.Numbers.{number_of}
use Rattle.limits.specs.Refusals.{wrong_room}
use Rattle.limits.specs.Limits.{sum_bound}
use Rattle.floats.specs.Whole.{magnitude}
use Rattle.delays.specs.declared.Nanoseconds.{Nanoseconds}
use Rattle.delays.specs.declared.Sum.{Sum}
use Rattle.delays.specs.Sums.{value_of, nanoseconds_of, total_of, sum_of}
use Rattle.delays.specs.Shown.{value-back}
use Rattle.quantiles.specs.declared.Quantiles.{Quantiles}
use Rattle.quantiles.specs.Record as quantile-record
use Rattle.quantiles.specs.Record.{taken, recorded}
use Rattle.quantiles.specs.Between.{one_more, Tried}
use Rattle.series.specs.Series as series
use Rattle.series.proofs.Determined.{taken-fits}
use Rattle.series.proofs.Ways.{way_fits}
use Rattle.directions.specs.declared.OwdDirection.{OwdDirection}
use Rattle.directions.specs.declared.Directions.{Directions}
use Rattle.directions.specs.Direction.{grown_of, left, Outcome, outcome, record_to}
use Rattle.directions.specs.Directions as both
use Rattle.directions.specs.Directions.{part_size, start_of, put_at, Untouched, record_part, record_own, own, outcome_both, in_both, record_in}
use Rattle.directions.specs.Tried.{TriedOwn}

-- ---- one sample more

high-below : (high low : ℕ) → magnitude high low < sum_bound → high < 2 ^ 62
high-below high low h = omega arith

pub sum_below : (s : Sum) → series.sum_fits s ≡ true → s.high < 2 ^ 62
sum_below s h = high-below s.high s.low (ltb→lt _ _ (subst T (sym h) tt))

pub grown_is : (d : OwdDirection) (next : Quantiles) (v : ℕ) (ns : Nanoseconds) (sum : Sum) → ns ≡ nanoseconds_of (to_z w64 v) → sum ≡ sum_of (total_of d.sum +ℤ value_of ns)
    → ◌≡◌ {A = OwdDirection} (record { quantiles = next; sum = sum }) (grown_of d next v)
grown_is d next v ns sum f g =
    ap (λ (s : Sum). at s) (g ∙ ap (λ (n : Nanoseconds). sum_of (total_of d.sum +ℤ value_of n)) f ∙ ap (λ (x : ℤ). sum_of (total_of d.sum +ℤ x)) (value-back (to_z w64 v)))
  where
    at : Sum → OwdDirection
    at s = record { quantiles = next; sum = s }

-- ---- the ways through `record` of a direction

module _ (d : OwdDirection) (room : List ℕ) (v : ℕ) where
  -- what is left, by what becomes of the quantiles
  by_quantiles : quantile-record.Outcome → Outcome
  by_quantiles o = left o.number o.answer (cond o.answer (grown_of d o.state v) d) o.room

  module _ (after : List ℕ) (fit : Bool) (a : Result (Option Quantiles) Refusal) (is : fit ≡ series.sum_fits d.sum) (got : quantile-record.outcome d.quantiles a after ≡ series.recorded_beside fit d.quantiles room v) where
    from_answer : (b : Result (Option Quantiles) Refusal) → a ≡ b → quantile-record.outcome d.quantiles b after ≡ series.recorded_beside (series.sum_fits d.sum) d.quantiles room v
    from_answer b told =
        ap (λ (x : Result (Option Quantiles) Refusal). quantile-record.outcome d.quantiles x after) (sym told) ∙ got ∙ ap (λ (f : Bool). series.recorded_beside f d.quantiles room v) is

    answered : (b : Result (Option Quantiles) Refusal) → a ≡ b → by_quantiles (quantile-record.outcome d.quantiles b after) ≡ record_to d room v
    unfolding record_to by_quantiles
    answered b told = ap by_quantiles (from_answer b told)

    pub way_refused : (r : Refusal) → a ≡ Err r → left (number_of r) false d after ≡ record_to d room v
    unfolding by_quantiles quantile-record.outcome quantile-record.still
    way_refused r told = answered (Err r) told

    pub way_full : a ≡ Ok None → left 0 false d after ≡ record_to d room v
    unfolding by_quantiles quantile-record.outcome quantile-record.still
    way_full told = answered (Ok None) told

    pub counted-fits : (next : Quantiles) → a ≡ Ok (Some next) → series.sum_fits d.sum ≡ true
    unfolding quantile-record.outcome quantile-record.taken
    counted-fits next told =
        taken-fits (series.sum_fits d.sum) d.quantiles room v (sym (ap (λ (o : quantile-record.Outcome). o.answer) (from_answer (Ok (Some next)) told)))

    pub way_counted : (next : Quantiles) (t : OwdDirection) → a ≡ Ok (Some next) → t ≡ grown_of d next v → left 0 true t after ≡ record_to d room v
    unfolding by_quantiles quantile-record.outcome quantile-record.taken
    way_counted next t told e = ap (λ (x : OwdDirection). left 0 true x after) e ∙ answered (Ok (Some next)) told

-- ---- a part of the slice, lent on and back

module _ (n start : ℕ) (slice part : List ℕ) (fits : start + n ≤ length slice) (same : length part ≡ n) where
  abbrev put : List ℕ
  put = take start slice ++ (part ++ drop n (drop start slice))

  begins : length (take start slice) ≡ start
  begins = length-take-le start slice (omega (arith, fits))

  lent : length (take n (drop start slice)) ≡ n
  lent = length-take-le n (drop start slice) (omega (arith, fits, length-drop start slice))

  put_size : length put ≡ length slice
  put_size = same_len_mid start n slice part (same ∙ sym lent)

  put-before : take start put ≡ take start slice
  put-before = take_at (take start slice) (part ++ drop n (drop start slice)) start begins

  put-behind : drop (start + n) put ≡ drop (start + n) slice
  put-behind =
      sym (drop-drop n start put)
      ∙ ap (drop n) (drop_at (take start slice) (part ++ drop n (drop start slice)) start begins)
      ∙ drop_at part (drop n (drop start slice)) n same
      ∙ drop-drop n start slice

pub length_of : (start : ℕ) {size : ℕ} → size ≡ part_size → (start + size) - start ≡ part_size
length_of start is = omega (arith, is)

pub put_untouched : (start k : ℕ) (slice part : List ℕ) → k ≡ part_size → start + part_size ≤ length slice → length part ≡ length (take k (drop start slice))
    → Untouched start slice (take start slice ++ (part ++ drop k (drop start slice)))
put_untouched start k slice part is fits same =
    let lent : length (take k (drop start slice)) ≡ k = length-take-le k (drop start slice) (omega (arith, is, fits, length-drop start slice)) in
    subst (λ (n : ℕ). Untouched start slice (take start slice ++ (part ++ drop n (drop start slice)))) (sym is)
    record {
      size = put_size part_size start slice part fits (same ∙ lent ∙ is);
      before = put-before part_size start slice part fits (same ∙ lent ∙ is);
      behind = put-behind part_size start slice part fits (same ∙ lent ∙ is);
    }

-- what is left of the slice, by what is left of the part
module _ (d : OwdDirection) (slice : List ℕ) (start v : ℕ) where
  in_slice : Outcome → Outcome
  in_slice o = left o.number o.answer o.state (put_at start slice o.room)

  put-outcome : (r : Result (Option OwdDirection) Refusal) (part : List ℕ) → outcome d r (put_at start slice part) ≡ in_slice (outcome d r part)
  unfolding outcome in_slice
  put-outcome (Err x) part = refl
  put-outcome (Ok None) part = refl
  put-outcome (Ok (Some next)) part = refl

  pub part_left : (k : ℕ) (r : Result (Option OwdDirection) Refusal) (part : List ℕ) → k ≡ part_size → outcome d r part ≡ record_to d (take k (drop start slice)) v
      → outcome d r (take start slice ++ (part ++ drop k (drop start slice))) ≡ record_part d slice start v
  unfolding record_part in_slice
  part_left k r part is got =
      ap (λ (n : ℕ). outcome d r (take start slice ++ (part ++ drop n (drop start slice)))) is
      ∙ put-outcome r part
      ∙ ap in_slice (got ∙ ap (λ (n : ℕ). record_to d (take n (drop start slice)) v) is)

pub start_small : (reverse : Bool) (start : ℕ) → start ≡ start_of reverse → start ≤ part_size
start_small false start e = omega (arith, e)
start_small true start e = omega (arith, e)

-- ---- the ways through `record` of a direction in its part

untouched_all : (start : ℕ) (slice : List ℕ) → Untouched start slice slice
untouched_all start slice = record { size = refl; before = refl; behind = refl }

module _ (d : OwdDirection) (slice : List ℕ) (reverse : Bool) (v : ℕ) where
  pub way_short : (size : ℕ) → size ≡ part_size → length slice < size + size → (left wrong_room false d slice ≡ record_own d slice reverse v) × Untouched (start_of reverse) slice slice
  unfolding record_own
  way_short size is h = (
    ap (λ (b : Bool). cond b (left wrong_room false d slice) (record_part d slice (start_of reverse) v)) (sym (lt-ltb (length slice) (part_size + part_size) (omega (arith, is, h)))),
    untouched_all (start_of reverse) slice,
  )

  pub way_part : (size start : ℕ) (r : Result (Option OwdDirection) Refusal) (after : List ℕ) → size ≡ part_size → start ≡ start_of reverse → size + size ≤ length slice
      → (outcome d r after ≡ record_part d slice start v) × Untouched start slice after
      → (outcome d r after ≡ record_own d slice reverse v) × Untouched (start_of reverse) slice after
  unfolding record_own
  way_part size start r after is from h got = (
    got.0
        ∙ ap (λ (n : ℕ). record_part d slice n v) from
        ∙ ap (λ (b : Bool). cond b (left wrong_room false d slice) (record_part d slice (start_of reverse) v)) (sym (le-ltb (length slice) (part_size + part_size) (omega (arith, is, h)))),
    subst (λ (n : ℕ). Untouched n slice after) from got.1,
  )

-- a part that begins at either start lies in the slice
pub part-fits : (reverse : Bool) (size start n : ℕ) → size ≡ part_size → start ≡ start_of reverse → size + size ≤ n → start + part_size ≤ n
part-fits false size start n is from h = omega (arith, is, from, h)
part-fits true size start n is from h = omega (arith, is, from, h)

-- ---- a try

-- a part that was lent on and comes back as it was
back_again : (start k : ℕ) (slice part : List ℕ) → part ≡ take k (drop start slice) → take start slice ++ (part ++ drop k (drop start slice)) ≡ slice
back_again start k slice part e =
    ap (λ (l : List ℕ). take start slice ++ (l ++ drop k (drop start slice))) e
    ∙ ap (λ (l : List ℕ). take start slice ++ l) (take-append-drop k (drop start slice))
    ∙ take-append-drop start slice

module _ (d : OwdDirection) (slice : List ℕ) (reverse : Bool) (v size start k : ℕ) (part : List ℕ) (fit : series.sum_fits d.sum ≡ true) (sized : size ≡ part_size) (from : start ≡ start_of reverse)
    (long : size + size ≤ length slice) (is : k ≡ part_size) (same : length part ≡ length (take k (drop start slice))) where
  -- the sample was taken: as `record` of the direction does it, with its sum
  took : taken (one_more d.quantiles) part ≡ recorded d.quantiles (take k (drop start slice)) v
      → left 0 true (grown_of d (one_more d.quantiles) v) part ≡ record_to d (take k (drop start slice)) v
  unfolding quantile-record.outcome
  took got =
      way_counted d (take k (drop start slice)) v part true (Ok (Some (one_more d.quantiles))) (sym fit)
      (way_fits d.quantiles (take k (drop start slice)) v (Ok (Some (one_more d.quantiles))) part true refl got)
      (one_more d.quantiles) (grown_of d (one_more d.quantiles) v) refl refl

  pub tried_own : (t : Bool) → Tried t d.quantiles (take k (drop start slice)) v part
      → TriedOwn t d slice reverse v (take start slice ++ (part ++ drop k (drop start slice)))
  unfolding outcome
  tried_own false e = back_again start k slice part e
  tried_own true e =
      let w = way_part d slice reverse v size start (Ok (Some (grown_of d (one_more d.quantiles) v))) (take start slice ++ (part ++ drop k (drop start slice))) sized from long
      (part_left d slice start v k (Ok (Some (grown_of d (one_more d.quantiles) v))) part is (took e.1), put_untouched start k slice part is (part-fits reverse size start (length slice) sized from long) same) in
      (e.0, w.0, w.1)

-- ---- and of both

module _ (ds : Directions) (slice : List ℕ) (v : ℕ) where
  -- the answer of both, by that of the sample's own direction
  abbrev pub answer-both : Bool → Result (Option OwdDirection) Refusal → Result (Option Directions) Refusal
  answer-both reverse (Err x) = Err x
  answer-both reverse (Ok None) = Ok None
  answer-both reverse (Ok (Some next)) = Ok (Some (both.with_own ds reverse next))

  same_outcome : (reverse : Bool) (b : Result (Option OwdDirection) Refusal) (after : List ℕ) → outcome_both ds (answer-both reverse b) after ≡ in_both ds reverse (outcome (own ds reverse) b after)
  unfolding outcome_both outcome
  same_outcome false (Err x) after = refl
  same_outcome false (Ok None) after = refl
  same_outcome false (Ok (Some next)) after = refl
  same_outcome true (Err x) after = refl
  same_outcome true (Ok None) after = refl
  same_outcome true (Ok (Some next)) after = refl

  -- what a sample leaves of both is what it leaves of its own
  pub own_in-both : (reverse : Bool) → in_both ds reverse (record_own (own ds reverse) slice reverse v) ≡ record_in ds slice reverse v
  unfolding record_in record_own
  own_in-both reverse = by reverse (ltb (length slice) (part_size + part_size))
    where
      by : (reverse short : Bool) → in_both ds reverse (cond short (left wrong_room false (own ds reverse) slice) (record_part (own ds reverse) slice (start_of reverse) v))
          ≡ both.pick_outcome short (both.left wrong_room false ds slice) (in_both ds reverse (record_part (own ds reverse) slice (start_of reverse) v))
      by false true = refl
      by true true = refl
      by false false = refl
      by true false = refl

  pub way_own : (reverse : Bool) (d : OwdDirection) (a b : Result (Option OwdDirection) Refusal) (after : List ℕ) → d ≡ own ds reverse
      → (outcome d a after ≡ record_own d slice reverse v) × Untouched (start_of reverse) slice after → a ≡ b
      → (outcome_both ds (answer-both reverse b) after ≡ record_in ds slice reverse v) × Untouched (start_of reverse) slice after
  way_own reverse d a b after is got told = (
    same_outcome reverse b after
        ∙ ap (in_both ds reverse)
        (ap (λ (x : Result (Option OwdDirection) Refusal). outcome (own ds reverse) x after) (sym told) ∙ ap (λ (x : OwdDirection). outcome x a after) (sym is) ∙ got.0 ∙ ap (λ (x : OwdDirection). record_own x slice reverse v) is)
        ∙ own_in-both reverse,
    got.1,
  )

  pub way_own-counted : (reverse : Bool) (d next : OwdDirection) (ds' : Directions) (a : Result (Option OwdDirection) Refusal) (after : List ℕ) → d ≡ own ds reverse
      → (outcome d a after ≡ record_own d slice reverse v) × Untouched (start_of reverse) slice after → a ≡ Ok (Some next) → ds' ≡ both.with_own ds reverse next
      → (outcome_both ds (Ok (Some ds')) after ≡ record_in ds slice reverse v) × Untouched (start_of reverse) slice after
  way_own-counted reverse d next ds' a after is got told e =
      let w = way_own reverse d a (Ok (Some next)) after is got told in
      (ap (λ (x : Directions). outcome_both ds (Ok (Some x)) after) e ∙ w.0, w.1)
