-- What the proofs of the calls cite: each case of the answer below. Assumes nothing.
use mathlib.Core.Path.{◌≡◌, refl, sym, ap, ap₂, ◌∙◌, subst}
use mathlib.Core.Bool.{Bool, true, false, not}
use borrow.Author.Tests.{ne_eqb, eqb-true, not-false}
use lib.Dec.{ltb, eqb}
use lib.IntN.{◌+ℤ◌}
use mathlib.Core.List.{List}
use Prim.Native.Nat.{ℕ, zero, suc, ◌+◌, ◌^◌, ◌<◌}
use native.Mathlib.Omega.{arith}
use lib.ListN.{get_or, set}
use lib.Seq.{sets, set_comm, set-get_or, get_or-set_other}
use Rattle.host_numbers.specs.Numbers.{flag_word, is_set}
use Rattle.std.specs.Prelude.{Option, Some, None, Result, Ok, Err}
use Rattle.limits.specs.declared.Refusal.{Refusal}
use Rattle.limits.specs.Numbers.{number_of}
use Rattle.quantiles.proofs.Numbers.{some_number}
use Rattle.delays.specs.declared.DelaySummary.{DelaySummary}
use Rattle.delays.specs.declared.Sum.{Sum}
use Rattle.delays.specs.Sums.{nanoseconds_of, total_of, sum_of}
use Rattle.delays.specs.Summary.{summary_of}
use Rattle.series.specs.Series.{sum_fits}
use Rattle.series.specs.Shown.{delays_of, span_at}
use Rattle.series.specs.Step.{with_words, far_from}
use Rattle.series.proofs.Kept.{left_of}
use Rattle.directions.specs.declared.OwdDirection.{OwdDirection}
use Rattle.directions.specs.declared.Directions.{Directions}
use Rattle.directions.specs.Direction as direction
use Rattle.directions.specs.Directions as both
use Rattle.directions.specs.Tried.{TriedOwn}
use Rattle.quantiles.specs.Between.{one_more}
use Rattle.directions.proofs.Steps.{own_in-both}
use Rattle.host_summary.specs.Words.{summary_words}
use Rattle.host_directions.specs.Words.{directions_at, words_start, direction_words, directions_words, more_words}
use Rattle.host_directions.specs.Calls.{words_left, fresh_to, record_left, RecordLeft, record_by, record_to, show_to}

-- six words, and a direction in them
abbrev six : List ℕ → ℕ → OwdDirection
six ws at = record { quantiles = record { signed = true; count = get_or ws at 0; min = get_or ws (at + 1) 0; max = get_or ws (at + 2) 0 }; sum = record { negative = is_set (get_or ws (at + 3) 0); high = get_or ws (at + 4) 0; low = get_or ws (at + 5) 0 } }

abbrev put : List ℕ → OwdDirection → ℕ → ℕ → List ℕ
put ws d at x = set (set (set (set (set (set ws at d.quantiles.count) (at + 1) d.quantiles.min) (at + 2) d.quantiles.max) (at + 3) x) (at + 4) d.sum.high) (at + 5) d.sum.low

own_again : (ds : Directions) (reverse : Bool) (d : OwdDirection) → both.own (both.with_own ds reverse d) reverse ≡ d
own_again ds false d = refl
own_again ds true d = refl

pub store_said : (ws : List ℕ) (ds : Directions) (x y : ℕ) → x ≡ flag_word ds.forward.sum.negative → y ≡ flag_word ds.reverse.sum.negative
    → set (set (set (set (set (set (set (set (set (set (set (set ws 0 ds.forward.quantiles.count) 1 ds.forward.quantiles.min) 2 ds.forward.quantiles.max) 3 x) 4 ds.forward.sum.high) 5 ds.forward.sum.low) 6 ds.reverse.quantiles.count) 7 ds.reverse.quantiles.min) 8 ds.reverse.quantiles.max) 9 y) 10 ds.reverse.sum.high) 11 ds.reverse.sum.low
    ≡ sets ws 0 (directions_words ds)
store_said ws ds x y e f = cc

pub fresh-said : (ws after : List ℕ) (ds : Directions) → ds ≡ both.fresh_both → after ≡ sets ws 0 (directions_words ds) → words_left 0 after ≡ fresh_to ws
unfolding fresh_to
fresh-said ws after ds e h = ap (words_left 0) (h ∙ ap (λ (x : Directions). sets ws 0 (directions_words x)) e)

-- a direction, from its own six words
pub load_said : (ws : List ℕ) (reverse : Bool) (at : ℕ) → at ≡ words_start reverse
    → ◌≡◌ {A = OwdDirection} (record { quantiles = record { signed = true; count = get_or ws at 0; min = get_or ws (at + 1) 0; max = get_or ws (at + 2) 0 }; sum = record { negative = is_set (get_or ws (at + 3) 0); high = get_or ws (at + 4) 0; low = get_or ws (at + 5) 0 } })
    (both.own (directions_at ws) reverse)
load_said ws false at e = ap (six ws) e
load_said ws true at e = ap (six ws) e

-- and stored in them
pub store_own-said : (ws : List ℕ) (reverse : Bool) (at : ℕ) (d : OwdDirection) (x : ℕ) → at ≡ words_start reverse → x ≡ flag_word d.sum.negative
    → set (set (set (set (set (set ws at d.quantiles.count) (at + 1) d.quantiles.min) (at + 2) d.quantiles.max) (at + 3) x) (at + 4) d.sum.high) (at + 5) d.sum.low
    ≡ sets ws (words_start reverse) (direction_words d)
store_own-said ws false at d x e f = ap₂ (put ws d) e f
store_own-said ws true at d x e f = ap₂ (put ws d) e f

-- a sum alone
pub sum_said : (ws : List ℕ) (reverse : Bool) (at : ℕ) → at ≡ words_start reverse
    → ◌≡◌ {A = Sum} (record { negative = is_set (get_or ws (at + 3) 0); high = get_or ws (at + 4) 0; low = get_or ws (at + 5) 0 }) (both.own (directions_at ws) reverse).sum
sum_said ws false at e = ap (λ (n : ℕ). (six ws n).sum) e
sum_said ws true at e = ap (λ (n : ℕ). (six ws n).sum) e

-- a count and a sum alone: the sign's word written, or 0 already
module _ (ws : List ℕ) (reverse : Bool) (at count : ℕ) (negative : Bool) (high low : ℕ) (start : at ≡ words_start reverse) where
  pub store_negative : negative ≡ true → set (set (set (set ws at count) (at + 4) high) (at + 5) low) (at + 3) 1 ≡ more_words ws (words_start reverse) count negative high low
  store_negative e =
      set_comm (set (set ws at count) (at + 4) high) (at + 5) (at + 3) low 1 (λ f. apart at f)
      ∙ ap (λ (l : List ℕ). set l (at + 5) low) (set_comm (set ws at count) (at + 4) (at + 3) high 1 (λ f. other at f))
      ∙ ap₂ (λ (n y : ℕ). set (set (set (set ws n count) (n + 3) y) (n + 4) high) (n + 5) low) start (ap flag_word (sym e))
    where
      apart : (n : ℕ) → n + 5 ≡ n + 3 → ⊥
      apart n e = omega arith

      other : (n : ℕ) → n + 4 ≡ n + 3 → ⊥
      other n e = omega arith

  pub store-plain : negative ≡ false → negative ≡ is_set (get_or ws (words_start reverse + 3) 0)
      → set (set (set ws at count) (at + 4) high) (at + 5) low ≡ more_words ws (words_start reverse) count negative high low
  store-plain e same =
      ap (λ (n : ℕ). set (set (set ws n count) (n + 4) high) (n + 5) low) start
      ∙ ap (λ (l : List ℕ). set (set l (words_start reverse + 4) high) (words_start reverse + 5) low) (sym stays)
    where
      unset : (w : ℕ) → is_set w ≡ false → w ≡ 0
      unset w f = eqb-true w 0 (not-false (eqb w 0) f)

      next : (n : ℕ) → n + 3 ≡ n → ⊥
      next n e = omega arith

      stays : set (set ws (words_start reverse) count) (words_start reverse + 3) (flag_word negative) ≡ set ws (words_start reverse) count
      stays =
          ap (set (set ws (words_start reverse) count) (words_start reverse + 3))
          (ap flag_word e ∙ sym (get_or-set_other ws (words_start reverse) (words_start reverse + 3) count 0 (next (words_start reverse)) ∙ unset (get_or ws (words_start reverse + 3) 0) (sym same ∙ e)))
          ∙ set-get_or (set ws (words_start reverse) count) (words_start reverse + 3) 0

-- what a sample leaves of six words that changes neither the least nor the greatest
abbrev more : OwdDirection → Bool → ℕ → ℕ → OwdDirection
more d negative high low = record { quantiles = one_more d.quantiles; sum = record { negative = negative; high = high; low = low } }

six_more : (ws : List ℕ) (at : ℕ) (negative : Bool) (high low : ℕ) → put ws (more (six ws at) negative high low) at (flag_word negative) ≡ more_words ws at (get_or ws at 0 + 1) negative high low
six_more ws at negative high low =
    ap (λ (l : List ℕ). set (set (set l (at + 3) (flag_word negative)) (at + 4) high) (at + 5) low)
    (ap (λ (x : ℕ). set (set one (at + 1) x) (at + 2) (get_or ws (at + 2) 0)) (sym (get_or-set_other ws at (at + 1) (get_or ws at 0 + 1) 0 (λ e. next at 0 e)))
    ∙ ap (λ (l : List ℕ). set l (at + 2) (get_or ws (at + 2) 0)) (set-get_or one (at + 1) 0)
    ∙ ap (λ (x : ℕ). set one (at + 2) x) (sym (get_or-set_other ws at (at + 2) (get_or ws at 0 + 1) 0 (λ e. next at 1 e)))
    ∙ set-get_or one (at + 2) 0)
  where
    one : List ℕ
    one = set ws at (get_or ws at 0 + 1)

    next : (n m : ℕ) → n + suc m ≡ n → ⊥
    next n m e = omega arith

pub show-said : (ws : List ℕ) (reverse : ℕ) (shown after : List ℕ) (d : OwdDirection) (s : DelaySummary) → d ≡ both.own (directions_at ws) (is_set reverse)
    → s ≡ summary_of (delays_of d.quantiles d.sum) → after ≡ sets shown 0 (summary_words s) → words_left 0 after ≡ show_to ws reverse shown
unfolding show_to
show-said ws reverse shown after d s f g h =
    ap (words_left 0)
    (h ∙ ap (λ (x : DelaySummary). sets shown 0 (summary_words x)) (g ∙ ap (λ (x : OwdDirection). summary_of (delays_of x.quantiles x.sum)) f))

module _ (ws slice after recorded : List ℕ) (reverse v : ℕ) (d : OwdDirection) (a : Result (Option OwdDirection) Refusal) (is : d ≡ both.own (directions_at ws) (is_set reverse))
    (got : (direction.outcome d a after ≡ both.record_own d slice (is_set reverse) v) × both.Untouched (both.start_of (is_set reverse)) slice after) where
  -- what is left of both, by what the own direction answered
  from_answer : (b : Result (Option OwdDirection) Refusal) → a ≡ b → both.in_both (directions_at ws) (is_set reverse) (direction.outcome (both.own (directions_at ws) (is_set reverse)) b after) ≡ both.record_in (directions_at ws) slice (is_set reverse) v
  from_answer b told =
      ap (both.in_both (directions_at ws) (is_set reverse))
      (ap (λ (x : Result (Option OwdDirection) Refusal). direction.outcome (both.own (directions_at ws) (is_set reverse)) x after) (sym told)
      ∙ ap (λ (x : OwdDirection). direction.outcome x a after) (sym is)
      ∙ got.0
      ∙ ap (λ (x : OwdDirection). both.record_own x slice (is_set reverse) v) is)
      ∙ own_in-both (directions_at ws) slice v (is_set reverse)

  left_by : both.Outcome → RecordLeft
  left_by o = record_by (is_set reverse) o.number o ws recorded

  pub record-refused : (r : Refusal) (n : ℕ) → a ≡ Err r → n ≡ number_of r
      → (record_left n ws after recorded ≡ record_to ws slice reverse v recorded) × both.Untouched (both.start_of (is_set reverse)) slice after
  unfolding record_to direction.outcome left_by
  record-refused r n told number = (
    ap (λ (m : ℕ). record_left m ws after recorded) number
        ∙ refused (number_of r) (both.in_both (directions_at ws) (is_set reverse) (direction.left (number_of r) false (both.own (directions_at ws) (is_set reverse)) after)) (some_number r)
        ∙ ap left_by (from_answer (Err r) told),
    got.1,
  )
    where
      refused : (n : ℕ) (o : both.Outcome) → (n ≡ 0 → ⊥) → record_left n ws o.slice recorded ≡ record_by (is_set reverse) n o ws recorded
      refused zero o some = absurd (some refl)
      refused (suc n) o some = refl

  pub record-full : a ≡ Ok None → (record_left 0 ws after (set recorded 0 0) ≡ record_to ws slice reverse v recorded) × both.Untouched (both.start_of (is_set reverse)) slice after
  unfolding record_to direction.outcome left_by
  record-full told = (ap left_by (from_answer (Ok None) told), got.1)

  pub record-counted : (next : OwdDirection) (words : List ℕ) → a ≡ Ok (Some next) → words ≡ sets ws (words_start (is_set reverse)) (direction_words next)
      → (record_left 0 words after (set recorded 0 1) ≡ record_to ws slice reverse v recorded) × both.Untouched (both.start_of (is_set reverse)) slice after
  unfolding record_to direction.outcome left_by
  record-counted next words told h = (
    ap (λ (l : List ℕ). record_left 0 l after (set recorded 0 1)) (h ∙ ap (λ (x : OwdDirection). sets ws (words_start (is_set reverse)) (direction_words x)) (sym (own_again (directions_at ws) (is_set reverse) next)))
        ∙ ap left_by (from_answer (Ok (Some next)) told),
    got.1,
  )

-- ---- a try

-- the words of the direction with one sample more, the sum as the code has it
six_own : (ws : List ℕ) (reverse : Bool) (negative : Bool) (high low : ℕ)
    → sets ws (words_start reverse) (direction_words (more (both.own (directions_at ws) reverse) negative high low)) ≡ more_words ws (words_start reverse) ((both.own (directions_at ws) reverse).quantiles.count + 1) negative high low
six_own ws false negative high low = six_more ws 0 negative high low
six_own ws true negative high low = six_more ws 6 negative high low

module _ (ws slice after recorded : List ℕ) (reverse v : ℕ) (back : Bool) (way : back ≡ is_set reverse) (d : OwdDirection) (before : Sum) (high low : ℕ) (is : d ≡ both.own (directions_at ws) back)
    (sums : before ≡ (both.own (directions_at ws) back).sum) (stepped : with_words before high low ≡ sum_of (total_of before +ℤ span_at true v)) where
  grown_more : more d before.negative high low ≡ direction.grown_of d (one_more d.quantiles) v
  grown_more = ap (λ (s : Sum). record { quantiles = one_more d.quantiles; sum = s }) (stepped ∙ ap (λ (s : Sum). sum_of (total_of s +ℤ span_at true v)) (sums ∙ ap (λ (x : OwdDirection). x.sum) (sym is)))

  pub record_tried : (words : List ℕ) (t : Bool) → t ≡ true → TriedOwn t d slice back v after → words ≡ more_words ws (words_start back) (d.quantiles.count + 1) before.negative high low
      → (record_left 0 words after (set recorded 0 1) ≡ record_to ws slice reverse v recorded) × both.Untouched (both.start_of (is_set reverse)) slice after
  unfolding direction.outcome
  record_tried words t was tried h =
      let got = subst (λ (b : Bool). TriedOwn b d slice back v after) was tried in
      record-counted ws slice after recorded reverse v d (Ok (Some (more d before.negative high low))) (is ∙ ap (both.own (directions_at ws)) way)
      (told got, subst (λ (b : Bool). both.Untouched (both.start_of b) slice after) way got.2) (more d before.negative high low) words refl
      (h ∙ ap (λ (x : OwdDirection). more_words ws (words_start back) (x.quantiles.count + 1) before.negative high low) is
      ∙ sym (six_own ws back before.negative high low)
      ∙ ap (λ (x : OwdDirection). sets ws (words_start back) (direction_words (more x before.negative high low))) (sym is)
      ∙ ap (λ (b : Bool). sets ws (words_start b) (direction_words (more d before.negative high low))) way)
    where
      told : TriedOwn true d slice back v after → direction.outcome d (Ok (Some (more d before.negative high low))) after ≡ both.record_own d slice (is_set reverse) v
      told got = ap (λ (x : OwdDirection). direction.left 0 true x after) grown_more ∙ got.1 ∙ ap (λ (b : Bool). both.record_own d slice b v) way

-- what the test of the sum tells
pub own-fits : (d : OwdDirection) (v : ℕ) (t : Bool) → t ≡ far_from d.sum v → t ≡ true → sum_fits d.sum ≡ true
own-fits d v t e f = left_of (sum_fits d.sum) (ltb (nanoseconds_of (span_at true v)).magnitude d.sum.low) (sym e ∙ f)

pub still-far : (ws : List ℕ) (back : Bool) (d : OwdDirection) (before : Sum) (v : ℕ) (t : Bool) → d ≡ both.own (directions_at ws) back → before ≡ (both.own (directions_at ws) back).sum
    → t ≡ far_from d.sum v → t ≡ true → far_from before v ≡ true
still-far ws back d before v t is sums e f = ap (λ (s : Sum). far_from s v) (sums ∙ ap (λ (x : OwdDirection). x.sum) (sym is)) ∙ sym e ∙ f

-- the sign that was read is that of its word
pub sign_read : (ws : List ℕ) (back : Bool) (before : Sum) → before ≡ (both.own (directions_at ws) back).sum → before.negative ≡ is_set (get_or ws (words_start back + 3) 0)
sign_read ws false before e = ap (λ (s : Sum). s.negative) e
sign_read ws true before e = ap (λ (s : Sum). s.negative) e

pub tried_fits : (d : OwdDirection) (slice after : List ℕ) (back : Bool) (v : ℕ) (t : Bool) → t ≡ true → TriedOwn t d slice back v after → d.quantiles.count + 1 < 2 ^ 64
tried_fits d slice after back v t was tried = (subst (λ (b : Bool). TriedOwn b d slice back v after) was tried).0

-- where nothing was done, any sample's way goes on from the slice as it was
pub not_tried : (ws slice after recorded : List ℕ) (reverse v n : ℕ) (words left answered : List ℕ) (back : Bool) (d : OwdDirection) (t : Bool) → t ≡ false → TriedOwn t d slice back v after
    → (record_left n words left answered ≡ record_to ws after reverse v recorded) × both.Untouched (both.start_of (is_set reverse)) after left
    → (record_left n words left answered ≡ record_to ws slice reverse v recorded) × both.Untouched (both.start_of (is_set reverse)) slice left
not_tried ws slice after recorded reverse v n words left answered back d t was tried e =
    let same = subst (λ (b : Bool). TriedOwn b d slice back v after) was tried in
    (e.0 ∙ ap (λ (l : List ℕ). record_to ws l reverse v recorded) same, subst (λ (l : List ℕ). both.Untouched (both.start_of (is_set reverse)) l left) same e.1)

-- every word that is not 0 says reverse
module _ (ws slice after recorded : List ℕ) (reverse k v n : ℕ) (words answered : List ℕ) (e : is_set k ≡ is_set reverse) where
  same_way : record_to ws slice k v recorded ≡ record_to ws slice reverse v recorded
  unfolding record_to
  same_way = ap (λ (b : Bool). record_by b (both.record_in (directions_at ws) slice b v).number (both.record_in (directions_at ws) slice b v) ws recorded) e

  pub by_way : (record_left n words after answered ≡ record_to ws slice k v recorded) × both.Untouched (both.start_of (is_set k)) slice after
      → (record_left n words after answered ≡ record_to ws slice reverse v recorded) × both.Untouched (both.start_of (is_set reverse)) slice after
  by_way h = (h.0 ∙ same_way, subst (λ (b : Bool). both.Untouched (both.start_of b) slice after) e h.1)

-- which direction it is
pub is_forward : (reverse : ℕ) → reverse ≡ 0 → false ≡ is_set reverse
is_forward reverse e = sym (ap is_set e)

pub is_reverse : (reverse : ℕ) → (reverse ≡ 0 → ⊥) → true ≡ is_set reverse
is_reverse reverse n = sym (ap not (ne_eqb reverse 0 n))
