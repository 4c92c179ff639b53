-- A sum that keeps its sign: its words with a signed word more. Assumes nothing.
use Rattle.std.proofs.Common.{◌≡◌, ℕ, suc, ◌+◌, ◌-◌, ◌*◌, ◌%◌, ◌^◌, ◌<◌, ◌≤◌, Bool, true, false, not, ◌&&◌, ltb, leb, ℤ, pos, negsuc, ◌+ℤ◌, neg_ℤ, sym, refl, ap, ◌∙◌, subst, ap₂, ⊎_elim, arith, ltb-true, le-ltb, lt-ltb, le-leb}
use borrow.Author.Tests.{lt-leb}
use mir.Val.{sel}
use Rattle.buckets.proofs.Facts.{lt_or_ge}
use Rattle.limits.specs.Limits.{sum_bound}
use Rattle.floats.specs.Whole.{magnitude, signed}
use Rattle.delays.specs.declared.Nanoseconds.{Nanoseconds}
use Rattle.delays.specs.declared.Sum.{Sum}
use Rattle.delays.specs.Sums.{nanoseconds_of, total_of, sum_from, sum_of}
use Rattle.delays.proofs.Signs.{alike, larger-first, sum_signed, some_words}
use Rattle.series.specs.Series.{sum_fits}
use Rattle.series.specs.Shown.{span_at}
use Rattle.series.specs.Step.{one_if, with_words, far_from}

pub left_of : (a b : Bool) → a && b ≡ true → a ≡ true
left_of true b e = refl
left_of false b e = e

pub right_of : (a b : Bool) → a && b ≡ true → b ≡ true
right_of true b e = e
right_of false b e = absurd (never e)
  where
    Only : Bool → Type 0
    Only true = ⊥
    Only false = false ≡ false

    never : false ≡ true → ⊥
    never e = subst (λ (t : Bool). Only t) e refl

-- a sum below its bound has a high word below its own
pub fits_below : (s : Sum) → sum_fits s ≡ true → s.high < 2 ^ 62
fits_below s e = under s.high s.low (ltb-true (magnitude s.high s.low) sum_bound e)
  where
    under : (high low : ℕ) → magnitude high low < sum_bound → high < 2 ^ 62
    under high low h = omega arith

-- ---- what a word says, by its leading digit

span_up : (w : ℕ) → w < 2 ^ 63 → span_at true w ≡ signed false w
span_up w h = ap (λ (b : Bool). sel b (pos w) (negsuc (2 ^ 64 - suc w))) (lt-ltb w (2 ^ 63) h)

span_down : (w : ℕ) → w < 2 ^ 64 → 2 ^ 63 ≤ w → span_at true w ≡ signed true (2 ^ 64 - w)
span_down w f h = ap (λ (b : Bool). sel b (pos w) (negsuc (2 ^ 64 - suc w))) (le-ltb w (2 ^ 63) h) ∙ ap (λ (n : ℕ). neg_ℤ (pos n)) (lacks w f)
  where
    lacks : (w : ℕ) → w < 2 ^ 64 → suc (2 ^ 64 - suc w) ≡ 2 ^ 64 - w
    lacks w f = omega arith

one_up : (w : ℕ) → w < 2 ^ 63 → one_if (leb (2 ^ 63) w) ≡ 0
one_up w h = ap one_if (lt-leb (2 ^ 63) w h)

one_down : (w : ℕ) → 2 ^ 63 ≤ w → one_if (leb (2 ^ 63) w) ≡ 1
one_down w h = ap one_if (le-leb (2 ^ 63) w h)

-- a sum whose magnitude grew, or shrank
module _ (sum : Sum) (high low : ℕ) (fits : low < 2 ^ 64) (positive : 0 < magnitude high low) where
  words_are : (n : ℕ) → magnitude high low ≡ n → with_words sum high low ≡ sum_from sum.negative n
  words_are n e = some_words sum.negative high low fits (λ z. none (magnitude high low) positive z) ∙ ap (sum_from sum.negative) e
    where
      none : (n : ℕ) → 0 < n → n ≡ 0 → ⊥
      none n h e = omega arith

  grew : (m : ℕ) (x : ℤ) → magnitude high low ≡ magnitude sum.high sum.low + m → x ≡ signed sum.negative m → with_words sum high low ≡ sum_of (total_of sum +ℤ x)
  grew m x e f =
      words_are (magnitude sum.high sum.low + m) e ∙ sum_signed sum.negative (magnitude sum.high sum.low + m)
      ∙ ap sum_of (sym (alike sum.negative (magnitude sum.high sum.low) m) ∙ ap (λ (y : ℤ). total_of sum +ℤ y) (sym f))

  shrank : (m : ℕ) (x : ℤ) → m ≤ magnitude sum.high sum.low → magnitude high low ≡ magnitude sum.high sum.low - m → x ≡ signed (not sum.negative) m
      → with_words sum high low ≡ sum_of (total_of sum +ℤ x)
  shrank m x h e f =
      words_are (magnitude sum.high sum.low - m) e ∙ sum_signed sum.negative (magnitude sum.high sum.low - m)
      ∙ ap sum_of (sym (larger-first sum.negative (magnitude sum.high sum.low) m h) ∙ ap (λ (y : ℤ). total_of sum +ℤ y) (sym f))

-- ---- a sum that is not negative

carried : (low w n : ℕ) → low < 2 ^ 64 → w < 2 ^ 64 → n ≡ (low + w) % 2 ^ 64 → n + 2 ^ 64 * one_if (ltb n w) ≡ low + w
carried low w n f g e = ⊎_elim over under (lt_or_ge n w)
  where
    over : n < w → n + 2 ^ 64 * one_if (ltb n w) ≡ low + w
    over h = ap (λ (t : Bool). n + 2 ^ 64 * one_if t) (lt-ltb n w h) ∙ (omega (arith, h, e, f, g))

    under : w ≤ n → n + 2 ^ 64 * one_if (ltb n w) ≡ low + w
    under h = ap (λ (t : Bool). n + 2 ^ 64 * one_if t) (le-ltb n w h) ∙ (omega (arith, h, e, f, g))

borrowed : (low w n : ℕ) → low < 2 ^ 64 → w < 2 ^ 64 → n < 2 ^ 64 → (n + w) % 2 ^ 64 ≡ low → n + w ≡ low + 2 ^ 64 * one_if (ltb low w)
borrowed low w n f g k e = ⊎_elim over under (lt_or_ge low w)
  where
    over : low < w → n + w ≡ low + 2 ^ 64 * one_if (ltb low w)
    over h = (omega (arith, h, e, f, g, k)) ∙ ap (λ (t : Bool). low + 2 ^ 64 * one_if t) (sym (lt-ltb low w h))

    under : w ≤ low → n + w ≡ low + 2 ^ 64 * one_if (ltb low w)
    under h = (omega (arith, h, e, f, g, k)) ∙ ap (λ (t : Bool). low + 2 ^ 64 * one_if t) (sym (le-ltb low w h))

module _ (sum : Sum) (w high low : ℕ) (known : sum.low < 2 ^ 64) (word : w < 2 ^ 64) (fits : low < 2 ^ 64) (positive : 0 < magnitude high low) where
  pub step_up : sum.negative ≡ false → (n carry below : ℕ) → n ≡ (sum.low + w) % 2 ^ 64 → carry ≡ one_if (ltb n w) → below ≡ one_if (leb (2 ^ 63) w)
      → high + below ≡ sum.high + carry → low ≡ n → with_words sum high low ≡ sum_of (total_of sum +ℤ span_at true w)
  step_up plain n carry below en ec eb eh el = ⊎_elim up down (lt_or_ge w (2 ^ 63))
    where
      whole : n + 2 ^ 64 * carry ≡ sum.low + w
      whole = ap (λ (k : ℕ). n + 2 ^ 64 * k) ec ∙ carried sum.low w n known word en

      up : w < 2 ^ 63 → with_words sum high low ≡ sum_of (total_of sum +ℤ span_at true w)
      up h =
          grew sum high low fits positive w (span_at true w) (add high low sum.high sum.low n carry below w eh el (eb ∙ one_up w h) whole)
          (span_up w h ∙ ap (λ (s : Bool). signed s w) (sym plain))
        where
          add : (h l sh sl n c b w : ℕ) → h + b ≡ sh + c → l ≡ n → b ≡ 0 → n + 2 ^ 64 * c ≡ sl + w → magnitude h l ≡ magnitude sh sl + w
          add h l sh sl n c b w eh el eb e = omega arith

      down : 2 ^ 63 ≤ w → with_words sum high low ≡ sum_of (total_of sum +ℤ span_at true w)
      down h =
          shrank sum high low fits positive (2 ^ 64 - w) (span_at true w)
          (enough high low sum.high sum.low n carry below w word eh el (eb ∙ one_down w h) whole)
          (take_off high low sum.high sum.low n carry below w word eh el (eb ∙ one_down w h) whole)
          (span_down w word h ∙ ap (λ (s : Bool). signed (not s) (2 ^ 64 - w)) (sym plain))
        where
          enough : (h l sh sl n c b w : ℕ) → w < 2 ^ 64 → h + b ≡ sh + c → l ≡ n → b ≡ 1 → n + 2 ^ 64 * c ≡ sl + w → 2 ^ 64 - w ≤ magnitude sh sl
          enough h l sh sl n c b w f eh el eb e = omega arith

          take_off : (h l sh sl n c b w : ℕ) → w < 2 ^ 64 → h + b ≡ sh + c → l ≡ n → b ≡ 1 → n + 2 ^ 64 * c ≡ sl + w → magnitude h l ≡ magnitude sh sl - (2 ^ 64 - w)
          take_off h l sh sl n c b w f eh el eb e = omega arith

  -- ---- a negative sum

  pub step_down : sum.negative ≡ true → (n borrow below : ℕ) → n < 2 ^ 64 → (n + w) % 2 ^ 64 ≡ sum.low → borrow ≡ one_if (ltb sum.low w) → below ≡ one_if (leb (2 ^ 63) w)
      → high + borrow ≡ sum.high + below → low ≡ n → with_words sum high low ≡ sum_of (total_of sum +ℤ span_at true w)
  step_down minus n borrow below fn en ec eb eh el = ⊎_elim up down (lt_or_ge w (2 ^ 63))
    where
      whole : n + w ≡ sum.low + 2 ^ 64 * borrow
      whole = borrowed sum.low w n known word fn en ∙ ap (λ (k : ℕ). sum.low + 2 ^ 64 * k) (sym ec)

      up : w < 2 ^ 63 → with_words sum high low ≡ sum_of (total_of sum +ℤ span_at true w)
      up h =
          shrank sum high low fits positive w (span_at true w)
          (enough high low sum.high sum.low n borrow below w eh el (eb ∙ one_up w h) whole)
          (take_off high low sum.high sum.low n borrow below w eh el (eb ∙ one_up w h) whole)
          (span_up w h ∙ ap (λ (s : Bool). signed (not s) w) (sym minus))
        where
          enough : (h l sh sl n c b w : ℕ) → h + c ≡ sh + b → l ≡ n → b ≡ 0 → n + w ≡ sl + 2 ^ 64 * c → w ≤ magnitude sh sl
          enough h l sh sl n c b w eh el eb e = omega arith

          take_off : (h l sh sl n c b w : ℕ) → h + c ≡ sh + b → l ≡ n → b ≡ 0 → n + w ≡ sl + 2 ^ 64 * c → magnitude h l ≡ magnitude sh sl - w
          take_off h l sh sl n c b w eh el eb e = omega arith

      down : 2 ^ 63 ≤ w → with_words sum high low ≡ sum_of (total_of sum +ℤ span_at true w)
      down h =
          grew sum high low fits positive (2 ^ 64 - w) (span_at true w) (add high low sum.high sum.low n borrow below w word eh el (eb ∙ one_down w h) whole)
          (span_down w word h ∙ ap (λ (s : Bool). signed s (2 ^ 64 - w)) (sym minus))
        where
          add : (h l sh sl n c b w : ℕ) → w < 2 ^ 64 → h + c ≡ sh + b → l ≡ n → b ≡ 1 → n + w ≡ sl + 2 ^ 64 * c → magnitude h l ≡ magnitude sh sl + (2 ^ 64 - w)
          add h l sh sl n c b w f eh el eb e = omega arith

-- ---- a sum whose low word alone is further from zero than the word

module _ (sum : Sum) (w : ℕ) (word : w < 2 ^ 64) (known : sum.low < 2 ^ 64) (far : far_from sum w ≡ true) where
  pub far-fits : sum_fits sum ≡ true
  far-fits = left_of (sum_fits sum) (ltb (nanoseconds_of (span_at true w)).magnitude sum.low) far

  pub far-below : sum.high < 2 ^ 62
  far-below = fits_below sum far-fits

  further : (nanoseconds_of (span_at true w)).magnitude < sum.low
  further = ltb-true (nanoseconds_of (span_at true w)).magnitude sum.low (right_of (sum_fits sum) (ltb (nanoseconds_of (span_at true w)).magnitude sum.low) far)

  far_up : w < 2 ^ 63 → w < sum.low
  far_up h = subst (λ (x : ℤ). (nanoseconds_of x).magnitude < sum.low) (span_up w h) further

  far_down : 2 ^ 63 ≤ w → 2 ^ 64 - w < sum.low
  far_down h = subst (λ (n : ℕ). n < sum.low) (lacks w word) (subst (λ (x : ℤ). (nanoseconds_of x).magnitude < sum.low) (to_z_down w h) further)
    where
      to_z_down : (w : ℕ) → 2 ^ 63 ≤ w → span_at true w ≡ negsuc (2 ^ 64 - suc w)
      to_z_down w h = ap (λ (b : Bool). sel b (pos w) (negsuc (2 ^ 64 - suc w))) (le-ltb w (2 ^ 63) h)

      lacks : (w : ℕ) → w < 2 ^ 64 → suc (2 ^ 64 - suc w) ≡ 2 ^ 64 - w
      lacks w f = omega arith

  -- what the high word has less is there, and the words that are left are not both zero
  abbrev Left : ℕ → ℕ → ℕ → Type 0
  Left more less low = (less ≤ sum.high + more) × (0 < magnitude (sum.high + more - less) low)

  pub left_up : (n carry below : ℕ) → n ≡ (sum.low + w) % 2 ^ 64 → carry ≡ one_if (ltb n w) → below ≡ one_if (leb (2 ^ 63) w) → Left carry below n
  left_up n carry below en ec eb = ⊎_elim up down (lt_or_ge w (2 ^ 63))
    where
      whole : n + 2 ^ 64 * carry ≡ sum.low + w
      whole = ap (λ (k : ℕ). n + 2 ^ 64 * k) ec ∙ carried sum.low w n known word en

      up : w < 2 ^ 63 → Left carry below n
      up h = (none sum.high carry below (eb ∙ one_up w h), more sum.high sum.low n carry below w (eb ∙ one_up w h) whole (far_up h))
        where
          none : (sh c b : ℕ) → b ≡ 0 → b ≤ sh + c
          none sh c b e = omega arith

          more : (sh sl n c b w : ℕ) → b ≡ 0 → n + 2 ^ 64 * c ≡ sl + w → w < sl → 0 < magnitude (sh + c - b) n
          more sh sl n c b w e f g = omega arith

      down : 2 ^ 63 ≤ w → Left carry below n
      down h = (one sum.high sum.low n carry below w word (eb ∙ one_down w h) whole (far_down h) small, less sum.high sum.low n carry below w word (eb ∙ one_down w h) whole (far_down h) small)
        where
          small : n < 2 ^ 64
          small = subst (λ (k : ℕ). k < 2 ^ 64) (sym en) (omega arith)

          one : (sh sl n c b w : ℕ) → w < 2 ^ 64 → b ≡ 1 → n + 2 ^ 64 * c ≡ sl + w → 2 ^ 64 - w < sl → n < 2 ^ 64 → b ≤ sh + c
          one sh sl n c b w k e f g i = omega arith

          less : (sh sl n c b w : ℕ) → w < 2 ^ 64 → b ≡ 1 → n + 2 ^ 64 * c ≡ sl + w → 2 ^ 64 - w < sl → n < 2 ^ 64 → 0 < magnitude (sh + c - b) n
          less sh sl n c b w k e f g i = omega arith

  pub left_down : (n borrow below : ℕ) → n < 2 ^ 64 → (n + w) % 2 ^ 64 ≡ sum.low → borrow ≡ one_if (ltb sum.low w) → below ≡ one_if (leb (2 ^ 63) w) → Left below borrow n
  left_down n borrow below fn en ec eb = ⊎_elim up down (lt_or_ge w (2 ^ 63))
    where
      whole : n + w ≡ sum.low + 2 ^ 64 * borrow
      whole = borrowed sum.low w n known word fn en ∙ ap (λ (k : ℕ). sum.low + 2 ^ 64 * k) (sym ec)

      up : w < 2 ^ 63 → Left below borrow n
      up h = (none sum.high sum.low n borrow below w fn (eb ∙ one_up w h) whole (far_up h), more sum.high sum.low n borrow below w fn (eb ∙ one_up w h) whole (far_up h) h)
        where
          none : (sh sl n c b w : ℕ) → n < 2 ^ 64 → b ≡ 0 → n + w ≡ sl + 2 ^ 64 * c → w < sl → c ≤ sh + b
          none sh sl n c b w k e f g = omega arith

          more : (sh sl n c b w : ℕ) → n < 2 ^ 64 → b ≡ 0 → n + w ≡ sl + 2 ^ 64 * c → w < sl → w < 2 ^ 63 → 0 < magnitude (sh + b - c) n
          more sh sl n c b w k e f g i = omega arith

      down : 2 ^ 63 ≤ w → Left below borrow n
      down h = (one sum.high sum.low n borrow below w fn word (eb ∙ one_down w h) whole, less sum.high sum.low n borrow below w fn word (eb ∙ one_down w h) whole (far_down h))
        where
          one : (sh sl n c b w : ℕ) → n < 2 ^ 64 → w < 2 ^ 64 → b ≡ 1 → n + w ≡ sl + 2 ^ 64 * c → c ≤ sh + b
          one sh sl n c b w k i e f = omega arith

          less : (sh sl n c b w : ℕ) → n < 2 ^ 64 → w < 2 ^ 64 → b ≡ 1 → n + w ≡ sl + 2 ^ 64 * c → 2 ^ 64 - w < sl → 0 < magnitude (sh + b - c) n
          less sh sl n c b w k i e f g = omega arith

-- what is taken off and put back
pub back : (n m : ℕ) → m ≤ n → n - m + m ≡ n
back n m h = omega arith

pub one_more : (h m : ℕ) → h < 2 ^ 62 → m ≤ 1 → h + m < 2 ^ 64
one_more h m f g = omega arith

-- the tests one after the other
pub far_tested : (s : Sum) (w : ℕ) (ns : Nanoseconds) (t : Bool) → ns ≡ nanoseconds_of (span_at true w) → t ≡ sum_fits s → t && ltb ns.magnitude s.low ≡ far_from s w
far_tested s w ns t e f = ap₂ (λ (b : Bool) (n : Nanoseconds). b && ltb n.magnitude s.low) f e
