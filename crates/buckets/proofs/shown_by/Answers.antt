use Rattle.std.proofs.Common.{◌≡◌, ℕ, ◌+◌, ◌-◌, ◌^◌, ◌<◌, ◌≤◌, Bool, true, false, sym, ap, ◌∙◌, subst, arith}
use Rattle.buckets.specs.Buckets.{value}
use Rattle.buckets.specs.Signed.{bucket_count, value_of}
use Rattle.buckets.proofs.SignedFacts.{value_low, value-high, value_positive}
use Rattle.buckets.proofs.shown_by.Goals as goal

-- a negative bucket shows a magnitude above 0 that fits
positive : (i m : ℕ) → i < 7296 → m ≡ value (7296 - i) → 0 < m
positive i m h e = subst (λ (x : ℕ). 0 < x) (sym e) (value_positive (7296 - i) (omega arith))

wraps : (i m : ℕ) → i < 7296 → m ≡ value (7296 - i) → 2 ^ 64 - 1 - m + 1 < 2 ^ 64
wraps i m h e = small m (positive i m h e)
  where
    small : (m : ℕ) → 0 < m → 2 ^ 64 - 1 - m + 1 < 2 ^ 64
    small m p = omega arith

low : (s : Bool) (i m : ℕ) → s ≡ true → i < 7296 → m < 2 ^ 64 → m ≡ value (7296 - i) → 2 ^ 64 - 1 - m + 1 ≡ value_of s i
low s i m e h f a = subst (λ (b : Bool). 2 ^ 64 - 1 - m + 1 ≡ value_of b i) (sym e) (negated m f ∙ ap (λ (x : ℕ). 2 ^ 64 - x) a ∙ sym (value_low i h))
  where
    negated : (m : ℕ) → m < 2 ^ 64 → 2 ^ 64 - 1 - m + 1 ≡ 2 ^ 64 - m
    negated m h = omega arith

high : (s : Bool) (i m : ℕ) → s ≡ true → 7296 ≤ i → m ≡ value (i - 7296) → m ≡ value_of s i
high s i m e h a = subst (λ (b : Bool). m ≡ value_of b i) (sym e) (a ∙ sym (value-high i h))

plain : (s : Bool) (i m : ℕ) → s ≡ false → m ≡ value i → m ≡ value_of s i
plain s i m e a = subst (λ (b : Bool). m ≡ value_of b i) (sym e) a

below : (s : Bool) (i : ℕ) → s ≡ true → i < bucket_count s → i < 14593
below s i e h = subst (λ (b : Bool). i < bucket_count b) e h

below_plain : (s : Bool) (i : ℕ) → s ≡ false → i < bucket_count s → i < 7424
below_plain s i e h = subst (λ (b : Bool). i < bucket_count b) e h

pub overflow_add-result : goal.overflow_add-result
overflow_add-result c = record { fits = wraps c.args.place c.magnitude_value.result c.if-place-lt-SIGNED_ZERO.true c.magnitude_value.ensures }

pub returns-then-place-lt-SIGNED_ZERO : goal.returns-then-place-lt-SIGNED_ZERO
returns-then-place-lt-SIGNED_ZERO c =
    let a = c.args in
    low a.signed a.place c.magnitude_value.result c.if-signed.true c.if-place-lt-SIGNED_ZERO.true c.magnitude_value.type_inv c.magnitude_value.ensures

pub magnitude_value-requires-then-signed : goal.magnitude_value-requires-then-signed
magnitude_value-requires-then-signed c = omega (arith, below c.args.signed c.args.place c.if-signed.true c.requires)

pub returns-then-signed : goal.returns-then-signed
returns-then-signed c =
    let a = c.args in
    high a.signed a.place c.magnitude_value-then-signed.result c.if-signed.true c.if-place-lt-SIGNED_ZERO.false c.magnitude_value-then-signed.ensures

pub magnitude_value-requires-2 : goal.magnitude_value-requires-2
magnitude_value-requires-2 c = below_plain c.args.signed c.args.place c.if-signed.false c.requires

pub returns : goal.returns
returns c =
    let a = c.args in
    plain a.signed a.place c.magnitude_value-2.result c.if-signed.false c.magnitude_value-2.ensures
