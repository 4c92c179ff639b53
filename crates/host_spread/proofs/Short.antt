-- The short way: what a sample leaves that is not the first and changes neither the least nor the greatest. Assumes nothing.
use mathlib.Core.Path.{◌≡◌, refl, sym, ap, ◌∙◌, subst}
use mathlib.Core.Bool.{Bool, true, false, ◌&&◌}
use mathlib.Core.List.{List}
use Prim.Native.Nat.{ℕ, ◌+◌, ◌^◌, ◌<◌}
use native.Mathlib.Omega.{arith}
use borrow.Author.Tests.{ne_eqb, ltb-true}
use lib.Dec.{ltb, eqb}
use lib.IntN.{pos, ◌+ℤ◌}
use lib.ListN.{get_or, set}
use lib.Seq.{sets, set_comm, set-get_or, get_or-set_other}
use Rattle.buckets.specs.Buckets.{pick}
use Rattle.delays.specs.declared.Nanoseconds.{Nanoseconds}
use Rattle.delays.specs.declared.Sum.{Sum}
use Rattle.delays.specs.Sums.{value_of, nanoseconds_of, total_of, sum_of}
use Rattle.quantiles.specs.declared.Quantiles.{Quantiles}
use Rattle.std.specs.Prelude.{Some, Ok}
use Rattle.quantiles.specs.Record as quantile-record
use Rattle.quantiles.specs.Between.{one_more, Tried}
use Rattle.series.proofs.Ways.{way_fits}
use Rattle.series.proofs.Kept.{left_of, right_of}
use Rattle.spread.specs.declared.Jitter.{Jitter}
use Rattle.spread.specs.declared.RttCollector.{RttCollector}
use Rattle.spread.specs.Spread.{welford_from, jitter_of, fits, grown_of}
use Rattle.spread.specs.Record as record-call
use Rattle.spread.proofs.Steps.{grown_is, way_counted}
use Rattle.host_welford.specs.declared.FloatWords.{FloatWords}
use Rattle.host_welford.specs.Steps.{step_words}
use Rattle.host_spread.specs.Words.{collector_at, collector_words}
use Rattle.host_spread.specs.Calls.{record_left, record_to}
use Rattle.host_spread.proofs.Answers.{store_said, record-counted}

-- ---- the words that are stored, in the order of the words

-- the last four
abbrev last : ℕ → ℕ → ℕ → ℕ → List ℕ → List ℕ
last a b c d l = set (set (set (set l 8 a) 9 b) 10 c) 11 d

-- one that stands before them
past : (a b c d : ℕ) (l : List ℕ) (i x : ℕ) → i < 8 → set (last a b c d l) i x ≡ last a b c d (set l i x)
past a b c d l i x h =
    set_comm (set (set (set l 8 a) 9 b) 10 c) 11 i d x (λ e. omega (arith, h, e))
    ∙ ap (λ (l : List ℕ). set l 11 d)
    (set_comm (set (set l 8 a) 9 b) 10 i c x (λ e. omega (arith, h, e))
    ∙ ap (λ (l : List ℕ). set l 10 c)
    (set_comm (set l 8 a) 9 i b x (λ e. omega (arith, h, e)) ∙ ap (λ (l : List ℕ). set l 9 b) (set_comm l 8 i a x (λ e. omega (arith, h, e)))))

-- the two floats
floats_before : (a b c d : ℕ) (l : List ℕ) (x y : ℕ) → set (set (last a b c d l) 7 y) 6 x ≡ last a b c d (set (set l 6 x) 7 y)
floats_before a b c d l x y =
    ap (λ (k : List ℕ). set k 6 x) (past a b c d l 7 y (omega arith))
    ∙ past a b c d (set l 7 y) 6 x (omega arith)
    ∙ ap (last a b c d) (set_comm l 7 6 y x (λ e. omega (arith, e)))

-- a word that is written as it was
same : (l : List ℕ) (i x : ℕ) → get_or l i 0 ≡ x → set l i x ≡ l
same l i x e = ap (set l i) (sym e) ∙ set-get_or l i 0

-- the least, the greatest and the first sample stay
stay : (ws : List ℕ) (n s t : ℕ)
    → set (set (set (set (set (set ws 0 n) 1 (get_or ws 1 0)) 2 (get_or ws 2 0)) 3 s) 4 t) 5 (get_or ws 5 0) ≡ set (set (set ws 0 n) 3 s) 4 t
stay ws n s t =
    ap (λ (l : List ℕ). set (set (set (set l 2 (get_or ws 2 0)) 3 s) 4 t) 5 (get_or ws 5 0)) (same one 1 (get_or ws 1 0) (get_or-set_other ws 0 1 n 0 (λ e. omega (arith, e))))
    ∙ ap (λ (l : List ℕ). set (set (set l 3 s) 4 t) 5 (get_or ws 5 0)) (same one 2 (get_or ws 2 0) (get_or-set_other ws 0 2 n 0 (λ e. omega (arith, e))))
    ∙ same (set (set one 3 s) 4 t) 5 (get_or ws 5 0)
    (get_or-set_other (set one 3 s) 4 5 t 0 (λ e. omega (arith, e)) ∙ get_or-set_other one 3 5 s 0 (λ e. omega (arith, e)) ∙ get_or-set_other ws 0 5 n 0 (λ e. omega (arith, e)))
  where
    one : List ℕ
    one = set ws 0 n

-- ---- what they are

first_false : (n : ℕ) → 0 < n → eqb n 0 ≡ false
first_false n h = ne_eqb n 0 (λ e. omega (arith, h, e))

module _ (ws : List ℕ) (v : ℕ) (floats : FloatWords) (ns : Nanoseconds) (sum : Sum) (j : Jitter) (later : 0 < get_or ws 0 0)
    (step : floats ≡ step_words (get_or ws 5 0) (get_or ws 6 0) (get_or ws 7 0) (get_or ws 0 0 + 1) v) (span : ns ≡ nanoseconds_of (pos v))
    (sums : sum ≡ sum_of (total_of (collector_at ws).sum +ℤ value_of ns)) (differs : j ≡ jitter_of (collector_at ws).jitter false v) where
  abbrev next : Quantiles
  next = one_more (collector_at ws).quantiles

  -- the collector with the sample, in its parts
  abbrev after : RttCollector
  after = record { quantiles = next; sum = sum; welford = welford_from (get_or ws 5 0) (collector_at ws).welford (get_or ws 0 0 + 1) v; jitter = j }

  first : eqb (get_or ws 0 0) 0 ≡ false
  first = first_false (get_or ws 0 0) later

  after_is : after ≡ grown_of (collector_at ws) next v
  after_is =
      grown_is (collector_at ws) next v (get_or ws 5 0) ns sum (welford_from (get_or ws 5 0) (collector_at ws).welford (get_or ws 0 0 + 1) v) j
      (ap (λ (b : Bool). pick b v (get_or ws 5 0)) (sym first)) span sums refl (differs ∙ ap (λ (b : Bool). jitter_of (collector_at ws).jitter b v) (sym first))

  pub more_said : set (set (set (set (set (set (set (set (set ws 0 (get_or ws 0 0 + 1)) 3 sum.high) 4 sum.low) 8 j.sum.high) 9 j.sum.low) 10 j.count) 11 j.last) 7 floats.m2) 6 floats.mean
      ≡ sets ws 0 (collector_words (grown_of (collector_at ws) next v))
  unfolding welford_from
  more_said =
      floats_before j.sum.high j.sum.low j.count j.last (set (set (set ws 0 (get_or ws 0 0 + 1)) 3 sum.high) 4 sum.low) floats.mean floats.m2
      ∙ ap (λ (l : List ℕ). last j.sum.high j.sum.low j.count j.last (set (set l 6 floats.mean) 7 floats.m2)) (sym (stay ws (get_or ws 0 0 + 1) sum.high sum.low))
      ∙ store_said ws after floats.mean floats.m2 (ap (λ (f : FloatWords). f.mean) step) (ap (λ (f : FloatWords). f.m2) step)
      ∙ ap (λ (c : RttCollector). sets ws 0 (collector_words c)) after_is

-- ---- the way through the call

module _ (ws room after : List ℕ) (v : ℕ) (c : RttCollector) (fit t : Bool) (is : c ≡ collector_at ws) (tested : fit ≡ fits c) (all : fit && ltb 0 c.quantiles.count ≡ true)
    (took : t ≡ true) (tried : Tried t c.quantiles room v after) where
  fit_is : fits c ≡ true
  fit_is = sym tested ∙ left_of fit (ltb 0 c.quantiles.count) all

  got : Tried true c.quantiles room v after
  got = subst (λ (b : Bool). Tried b c.quantiles room v after) took tried

  pub more_ready : (fits (collector_at ws) ≡ true) × (0 < get_or ws 0 0) × (get_or ws 0 0 + 1 < 2 ^ 64)
  more_ready = (
    ap fits (sym is) ∙ fit_is,
    subst (λ (c : RttCollector). 0 < c.quantiles.count) is (ltb-true 0 c.quantiles.count (right_of fit (ltb 0 c.quantiles.count) all)),
    subst (λ (c : RttCollector). c.quantiles.count + 1 < 2 ^ 64) is got.0,
  )

  -- as `record` of the collector does it
  recorded_more : record-call.left 0 true (grown_of c (one_more c.quantiles) v) after ≡ record-call.record_to c room v
  unfolding quantile-record.outcome
  recorded_more =
      way_counted c room v after true (Ok (Some (one_more c.quantiles))) (sym fit_is)
      (way_fits c.quantiles room v (Ok (Some (one_more c.quantiles))) after true refl got.1)
      (one_more c.quantiles) (grown_of c (one_more c.quantiles) v) refl refl

  pub record_more : (words recorded answered : List ℕ) → words ≡ sets ws 0 (collector_words (grown_of (collector_at ws) (one_more (collector_at ws).quantiles) v)) → answered ≡ set recorded 0 1
      → record_left 0 words after answered ≡ record_to ws room v recorded
  unfolding record-call.outcome
  record_more words recorded answered h k =
      ap (record_left 0 words after) k
      ∙ record-counted ws room after recorded v c (Ok (Some (grown_of c (one_more c.quantiles) v))) is recorded_more (grown_of c (one_more c.quantiles) v) words refl
      (h ∙ ap (λ (x : RttCollector). sets ws 0 (collector_words (grown_of x (one_more x.quantiles) v))) (sym is))

-- where nothing was done, any sample's way goes on from the room as it was
pub not_tried : (ws room after recorded : List ℕ) (v n : ℕ) (words left answered : List ℕ) (q : Quantiles) (t : Bool) → t ≡ false → Tried t q room v after
    → record_left n words left answered ≡ record_to ws after v recorded → record_left n words left answered ≡ record_to ws room v recorded
not_tried ws room after recorded v n words left answered q t was tried e = e ∙ ap (λ (l : List ℕ). record_to ws l v recorded) (subst (λ (b : Bool). Tried b q room v after) was tried)
