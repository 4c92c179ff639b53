-- What the proofs of the functions cite: on each way, what is answered is what the definition says. Assumes nothing.
use Rattle.std.proofs.Common.{◌≡◌, ℕ, zero, suc, ◌+◌, ◌-◌, ◌^◌, ◌<◌, ◌≤◌, Bool, true, false, cond, ◌&&◌, T, eqb, ltb, List, pos, negsuc, ◌+ℤ◌, ◌-ℤ◌, neg_ℤ, sym, ap, ◌∙◌, subst, arith, ltb→lt, le-ltb, lt-ltb}
use Rattle.std.specs.Prelude.{Option, Some, None, Result, Ok, Err}
use Rattle.limits.specs.declared.Refusal.{Refusal}
use Rattle.limits.specs.Numbers.{number_of}
use lib.Ieee.{Float, binary64, of_int, add, sub, mul, div}
use lib.Ieee.Fits.{and_l, and_r}
use Rattle.limits.specs.Limits.{count_bound, sum_bound}
use Rattle.floats.specs.Whole.{magnitude, signed}
use Rattle.delays.specs.declared.Nanoseconds.{Nanoseconds}
use Rattle.delays.specs.declared.Sum.{Sum}
use Rattle.delays.specs.Sums.{value_of, nanoseconds_of, total_of, sum_of}
use Rattle.buckets.specs.Buckets.{pick}
use Rattle.quantiles.specs.declared.Quantiles.{Quantiles}
use Rattle.quantiles.specs.Record as quantile-record
use Rattle.series.specs.Series as series
use Rattle.series.proofs.Determined.{taken-fits}
use Rattle.spread.specs.declared.Welford.{Welford}
use Rattle.spread.specs.declared.Jitter.{Jitter}
use Rattle.spread.specs.declared.RttCollector.{RttCollector}
use Rattle.spread.specs.Spread.{apart, centered_of, delta_of, mean_with, squares_with, welford_from, jitter_of, fits, grown_of}
use Rattle.spread.specs.Record.{Outcome, left, record_to}

-- ---- a sample less the origin

module _ (v o : ℕ) (x : Float) where
  pub centered-below : v < o → x ≡ of_int binary64 (signed true (magnitude 0 (o - v))) → x ≡ centered_of v o
  centered-below h e = e ∙ ap (of_int binary64) (go o h)
    where
      sized : (v k : ℕ) → v < suc k → magnitude 0 (suc k - v) ≡ suc (suc k - suc v)
      sized v k h = omega arith

      go : (o : ℕ) → v < o → signed true (magnitude 0 (o - v)) ≡ pos v -ℤ pos o
      go zero h = absurd (omega (arith, h))
      go (suc k) h =
          ap (λ (n : ℕ). neg_ℤ (pos n)) (sized v k h)
          ∙ ap (λ (b : Bool). cond b (negsuc (suc k - suc v)) (pos (v - suc k))) (sym (lt-ltb v (suc k) h))

  pub centered-above : o ≤ v → x ≡ of_int binary64 (signed false (magnitude 0 (v - o))) → x ≡ centered_of v o
  centered-above h e = e ∙ ap (of_int binary64) (go o h)
    where
      none : (v : ℕ) → magnitude 0 (v - 0) ≡ v + 0
      none v = omega arith

      sized : (v k : ℕ) → magnitude 0 (v - suc k) ≡ v - suc k
      sized v k = omega arith

      go : (o : ℕ) → o ≤ v → signed false (magnitude 0 (v - o)) ≡ pos v -ℤ pos o
      go zero h = ap pos (none v)
      go (suc k) h = ap pos (sized v k) ∙ ap (λ (b : Bool). cond b (negsuc (suc k - suc v)) (pos (v - suc k))) (sym (le-ltb v (suc k) h))

-- ---- the Welford steps

pub welford_is : (w : Welford) (origin n v : ℕ) (x y : Float) → x ≡ centered_of v origin → y ≡ of_int binary64 (pos n)
    → ◌≡◌ {A = Welford} (record {
      origin = origin;
      mean = add binary64 w.mean (div binary64 (sub binary64 x w.mean) y);
      m2 = add binary64 w.m2 (mul binary64 (sub binary64 x w.mean) (sub binary64 x (add binary64 w.mean (div binary64 (sub binary64 x w.mean) y))));
    }) (welford_from origin w n v)
unfolding welford_from delta_of mean_with squares_with
welford_is w origin n v x y e f = ap (λ (x : Float). step x y) e ∙ ap (step (centered_of v origin)) f
  where
    step : Float → Float → Welford
    step x y = record {
      origin = origin;
      mean = add binary64 w.mean (div binary64 (sub binary64 x w.mean) y);
      m2 = add binary64 w.m2 (mul binary64 (sub binary64 x w.mean) (sub binary64 x (add binary64 w.mean (div binary64 (sub binary64 x w.mean) y))));
    }

-- ---- differences

abbrev jitter_at : Sum → ℕ → ℕ → Jitter
jitter_at s n last = record { sum = s; count = n; last = last }

module _ (j : Jitter) (first : Bool) (v : ℕ) where
  pub jitter_first : first ≡ true → jitter_at j.sum j.count v ≡ jitter_of j first v
  jitter_first h = ap (λ (b : Bool). jitter_of j b v) (sym h)

  pub jitter_later : (d : ℕ) (ns : Nanoseconds) (s : Sum) → first ≡ false → d ≡ apart v j.last → ns ≡ nanoseconds_of (pos d)
      → s ≡ sum_of (total_of j.sum +ℤ value_of ns) → jitter_at s (j.count + 1) v ≡ jitter_of j first v
  jitter_later d ns s h e f g =
      ap (λ (x : Sum). jitter_at x (j.count + 1) v)
      (g ∙ ap (λ (n : Nanoseconds). sum_of (total_of j.sum +ℤ value_of n)) f ∙ ap (λ (n : ℕ). sum_of (total_of j.sum +ℤ pos n)) e)
      ∙ ap (λ (b : Bool). jitter_of j b v) (sym h)

-- ---- the bounds

high-below : (high low : ℕ) → magnitude high low < sum_bound → high < 2 ^ 62
high-below high low h = omega arith

module _ (s : RttCollector) (h : fits s ≡ true) where
  all : T (fits s)
  all = subst T (sym h) tt

  abbrev sum_test : Bool
  sum_test = ltb (magnitude s.sum.high s.sum.low) sum_bound

  abbrev differences_test : Bool
  differences_test = ltb (magnitude s.jitter.sum.high s.jitter.sum.low) sum_bound

  abbrev count_test : Bool
  count_test = ltb s.jitter.count count_bound

  pub sum_below : s.sum.high < 2 ^ 62
  sum_below = high-below s.sum.high s.sum.low (ltb→lt _ _ (and_l sum_test differences_test (and_l (sum_test && differences_test) count_test all)))

  pub differences-below : s.jitter.sum.high < 2 ^ 62
  differences-below =
      high-below s.jitter.sum.high s.jitter.sum.low
      (ltb→lt _ _ (and_r sum_test differences_test (and_l (sum_test && differences_test) count_test all)))

  pub count-below : s.jitter.count < 2 ^ 63
  count-below = ltb→lt _ _ (and_r (sum_test && differences_test) count_test all)

-- the tests one after the other
pub tested : (s : RttCollector) (a b : Bool) → a ≡ series.sum_fits s.sum → b ≡ series.sum_fits s.jitter.sum → a && b && ltb s.jitter.count (2 ^ 63) ≡ fits s
tested s a b e f =
    ap (λ (x : Bool). x && b && ltb s.jitter.count (2 ^ 63)) e ∙ ap (λ (x : Bool). series.sum_fits s.sum && x && ltb s.jitter.count (2 ^ 63)) f

-- ---- one sample more

abbrev collector_at : Quantiles → Sum → Welford → Jitter → RttCollector
collector_at q s w j = record { quantiles = q; sum = s; welford = w; jitter = j }

pub grown_is : (s : RttCollector) (next : Quantiles) (v origin : ℕ) (ns : Nanoseconds) (sum : Sum) (w : Welford) (j : Jitter)
    → origin ≡ pick (eqb s.quantiles.count 0) v s.welford.origin → ns ≡ nanoseconds_of (pos v) → sum ≡ sum_of (total_of s.sum +ℤ value_of ns)
    → w ≡ welford_from origin s.welford next.count v → j ≡ jitter_of s.jitter (eqb s.quantiles.count 0) v
    → collector_at next sum w j ≡ grown_of s next v
unfolding grown_of
grown_is s next v origin ns sum w j e f g h k =
    ap (λ (x : Sum). collector_at next x w j) (g ∙ ap (λ (n : Nanoseconds). sum_of (total_of s.sum +ℤ value_of n)) f)
    ∙ ap (λ (x : Welford). collector_at next (sum_of (total_of s.sum +ℤ pos v)) x j) (h ∙ ap (λ (o : ℕ). welford_from o s.welford next.count v) e)
    ∙ ap (collector_at next (sum_of (total_of s.sum +ℤ pos v)) (welford_from (pick (eqb s.quantiles.count 0) v s.welford.origin) s.welford next.count v)) k

-- ---- the ways through `record`

module _ (s : RttCollector) (room : List ℕ) (v : ℕ) where
  -- what is left, by what becomes of the quantiles
  by_quantiles : quantile-record.Outcome → Outcome
  by_quantiles o = left o.number o.answer (cond o.answer (grown_of s o.state v) s) o.room

  module _ (after : List ℕ) (fit : Bool) (a : Result (Option Quantiles) Refusal) (is : fit ≡ fits s) (got : quantile-record.outcome s.quantiles a after ≡ series.recorded_beside fit s.quantiles room v) where
    from_answer : (b : Result (Option Quantiles) Refusal) → a ≡ b → quantile-record.outcome s.quantiles b after ≡ series.recorded_beside (fits s) s.quantiles room v
    from_answer b told =
        ap (λ (x : Result (Option Quantiles) Refusal). quantile-record.outcome s.quantiles x after) (sym told) ∙ got ∙ ap (λ (f : Bool). series.recorded_beside f s.quantiles room v) is

    answered : (b : Result (Option Quantiles) Refusal) → a ≡ b → by_quantiles (quantile-record.outcome s.quantiles b after) ≡ record_to s room v
    unfolding record_to by_quantiles
    answered b told = ap by_quantiles (from_answer b told)

    pub way_refused : (r : Refusal) → a ≡ Err r → left (number_of r) false s after ≡ record_to s room v
    unfolding by_quantiles quantile-record.outcome quantile-record.still
    way_refused r told = answered (Err r) told

    pub way_full : a ≡ Ok None → left 0 false s after ≡ record_to s room v
    unfolding by_quantiles quantile-record.outcome quantile-record.still
    way_full told = answered (Ok None) told

    pub counted-fits : (next : Quantiles) → a ≡ Ok (Some next) → fits s ≡ true
    unfolding quantile-record.outcome quantile-record.taken
    counted-fits next told =
        taken-fits (fits s) s.quantiles room v (sym (ap (λ (o : quantile-record.Outcome). o.answer) (from_answer (Ok (Some next)) told)))

    pub way_counted : (next : Quantiles) (t : RttCollector) → a ≡ Ok (Some next) → t ≡ grown_of s next v → left 0 true t after ≡ record_to s room v
    unfolding by_quantiles quantile-record.outcome quantile-record.taken
    way_counted next t told e = ap (λ (x : RttCollector). left 0 true x after) e ∙ answered (Ok (Some next)) told
