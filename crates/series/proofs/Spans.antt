-- What the proofs of the summary cite: the time span of a word, and the extremes. Assumes nothing.
use Rattle.std.specs.Prelude.{Option, Some, None}
use Rattle.std.proofs.Common.{◌≡◌, ℕ, zero, suc, ◌+◌, ◌-◌, ◌^◌, ◌<◌, ◌≤◌, Bool, true, false, pos, negsuc, sym, refl, ap, ◌∙◌, arith, le-ltb, lt-ltb}
use mir.Val.{sel}
use Rattle.delays.specs.declared.Nanoseconds.{Nanoseconds}
use Rattle.delays.specs.declared.Sum.{Sum}
use Rattle.delays.specs.declared.DelaySummary.{DelaySummary}
use Rattle.delays.specs.Sums.{nanoseconds_of}
use Rattle.delays.specs.Summary.{summary_of}
use Rattle.quantiles.specs.declared.Quantiles.{Quantiles}
use Rattle.series.specs.Shown.{span_at, extreme_of, delays_of}

module _ (s : Bool) (w : ℕ) where
  pub span_low : s ≡ true → w < 2 ^ 63 → ◌≡◌ {A = Nanoseconds} (record { negative = false; magnitude = w }) (nanoseconds_of (span_at s w))
  span_low is h =
      ap (λ (b : Bool). nanoseconds_of (sel b (pos w) (negsuc (2 ^ 64 - suc w)))) (sym (lt-ltb w (2 ^ 63) h)) ∙ ap (λ (t : Bool). nanoseconds_of (span_at t w)) (sym is)

  pub span_high : s ≡ true → w < 2 ^ 64 → 2 ^ 63 ≤ w → ◌≡◌ {A = Nanoseconds} (record { negative = true; magnitude = 18446744073709551615 - w + 1 }) (nanoseconds_of (span_at s w))
  span_high is f h =
      ap (λ (n : ℕ). record { negative = true; magnitude = n }) (lacks w f)
      ∙ ap (λ (b : Bool). nanoseconds_of (sel b (pos w) (negsuc (2 ^ 64 - suc w)))) (sym (le-ltb w (2 ^ 63) h))
      ∙ ap (λ (t : Bool). nanoseconds_of (span_at t w)) (sym is)
    where
      lacks : (w : ℕ) → w < 2 ^ 64 → 18446744073709551615 - w + 1 ≡ suc (2 ^ 64 - suc w)
      lacks w f = omega arith

  pub span_plain : s ≡ false → ◌≡◌ {A = Nanoseconds} (record { negative = false; magnitude = w }) (nanoseconds_of (span_at s w))
  span_plain is = ap (λ (t : Bool). nanoseconds_of (span_at t w)) (sym is)

pub no_extreme : (n : ℕ) (ns : Nanoseconds) → n ≡ 0 → None ≡ extreme_of n ns
no_extreme n ns h = ap (λ (m : ℕ). extreme_of m ns) (sym h)

pub an_extreme : (n : ℕ) (ns : Nanoseconds) → (n ≡ 0 → ⊥) → Some ns ≡ extreme_of n ns
an_extreme zero ns h = absurd (h refl)
an_extreme (suc n) ns h = refl

pub summary_is : (q : Quantiles) (sum : Sum) (a b : Nanoseconds) (x y : Option Nanoseconds) (r : DelaySummary) → a ≡ nanoseconds_of (span_at q.signed q.min) → b ≡ nanoseconds_of (span_at q.signed q.max)
    → x ≡ extreme_of q.count a → y ≡ extreme_of q.count b → r ≡ summary_of (record { count = q.count; sum = sum; min = x; max = y }) → r ≡ summary_of (delays_of q sum)
summary_is q sum a b x y r e f g h k =
    k ∙ ap (λ (m : Option Nanoseconds). summary_of (record { count = q.count; sum = sum; min = m; max = y })) (g ∙ ap (extreme_of q.count) e)
    ∙ ap (λ (m : Option Nanoseconds). summary_of (record { count = q.count; sum = sum; min = extreme_of q.count (nanoseconds_of (span_at q.signed q.min)); max = m })) (h ∙ ap (extreme_of q.count) f)
