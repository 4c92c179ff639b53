-- The largest combined error that a clock quality shows is the largest of its samples' combined errors. Each of them is above 0 and finite,
-- so of two one is at most the other. Assumes nothing.
use Rattle.std.specs.Prelude.{Option, Some, None}
use mathlib.Core.Path.{◌≡◌, refl, sym, ap, ◌∙◌, subst}
use mathlib.Core.Bool.{Bool, true, false, ◌&&◌, cond, true≢false}
use mathlib.Core.Logic.{inl, inr}
use mathlib.Core.List.{List, [], ◌∷◌}
use Prim.Native.Nat.{ℕ, ◌+◌, ◌*◌, ◌^◌, ◌≤◌, ◌<◌}
use native.Mathlib.Nat.{zero-lt-suc, mul-pos, mul_assoc, mul_comm, mul_right_comm, add-mul, le-add_right, le_trans, le_of_lt, le_of_eq, lt_of_lt_of_le, mul-le-mul_right}
use native.Mathlib.Omega.{arith}
use lib.Dec.{T, ltb, leb, lit≤}
use lib.Pow.{pow-add, pow_pos, pow_mono}
use lib.Ieee.{Float, nan, inf, fin, binary64, up, down, round, add, sum, le}
use lib.Ieee.Fits.{down_pos}
use lib.Ieee.Exact.{HasValue}
use lib.Ieee.Scale.{round_same}
use lib.Ieee.Order.{round_mono}
use lib.Ieee.Positive.{num, den, positive, positive_of_value, cross→le, le_trans_positive, between}
use borrow.Author.Tests.{ltb-true, leb-true}
use Rattle.floats.proofs.Values.{scaled_exact}
use Rattle.estimate.specs.declared.ErrorEstimate.{ErrorEstimate}
use Rattle.estimate.specs.declared.Reading.{Reading}
use Rattle.estimate.specs.declared.Reading.TheVariants.{Known, Invalid}
use Rattle.estimate.specs.Wire.{wire_of}
use Rattle.estimate.specs.Error.{known_if, reading_of}
use Rattle.clock_quality.specs.Quality.{larger_of, largest_of}
use Rattle.clock_quality.specs.Samples.{largest_with, largest_among, Combined, Largest, InRange}

-- ---- the sum of two fractions, rounded once
add_fractions : (x y : Float) (a b c : ℕ) → 0 < c → HasValue x false a c → HasValue y false b c → add binary64 x y ≡ round binary64 false (a + b) c
unfolding add sum
add_fractions nan y a b c C h k = absurd h
add_fractions (inf s) y a b c C h k = absurd h
add_fractions (fin s m e) nan a b c C h k = absurd k
add_fractions (fin s m e) (inf t) a b c C h k = absurd k
add_fractions (fin true m e) (fin t n d) a b c C h k = absurd (true≢false h.0)
add_fractions (fin false m e) (fin true n d) a b c C h k = absurd (true≢false k.0)
add_fractions (fin false m e) (fin false n d) a b c C h k =
    round_same binary64 false (m * up e * down d + n * up d * down e) (down e * down d) (a + b) c (mul-pos (down_pos e) (down_pos d)) C
    (joined (m * up e) (down d) (n * up d) (down e) h.1 k.1)
  where
    joined : (x g y f : ℕ) → x * c ≡ a * f → y * c ≡ b * g → (x * g + y * f) * c ≡ (a + b) * (f * g)
    joined x g y f p q =
        add-mul (x * g) (y * f) c
        ∙ ap (λ (z : ℕ). z + y * f * c) (mul_right_comm x g c ∙ ap (λ (z : ℕ). z * g) p ∙ mul_assoc a f g)
        ∙ ap (λ (z : ℕ). a * (f * g) + z) (mul_right_comm y f c ∙ ap (λ (z : ℕ). z * f) q ∙ mul_assoc b g f ∙ ap (λ (z : ℕ). b * z) (mul_comm g f))
        ∙ sym (add-mul a b (f * g))

-- ---- a known error: multiplier * 1000 * 2 ^ scale / 2 ^ 32
abbrev size : ErrorEstimate → ℕ
size e = e.multiplier * 1000 * 2 ^ e.scale

pub record KnownError (e : ErrorEstimate) (x : Float) : Type 0 where
  pub some : 0 < size e
  pub bounded : size e ≤ 2 ^ 82
  pub exact : HasValue x false (size e) (2 ^ 32)
  pub Only : x ≡ round binary64 false (size e) (2 ^ 32)

yes : {b : Bool} → b ≡ true → T b
yes h = subst T (sym h) tt

pub known_error : (e : ErrorEstimate) (x : Float) → e.multiplier < 256 → reading_of e ≡ Known x → KnownError e x
known_error e x M h = go (ltb 0 e.multiplier && leb e.scale 63) refl h
  where
    v : Float
    v = round binary64 false (size e) (2 ^ 32)

    clash : Invalid (wire_of e) ≡ Known x → ⊥
    clash h = let z : ◌≡◌ {A = ℕ} 0 1 = cc in omega arith

    same : Known v ≡ Known x → x ≡ v
    same h = cc

    product : (m : ℕ) → m < 256 → m * 1000 ≤ 2 ^ 18
    product m h = omega arith

    few : (m : ℕ) → m < 256 → m * 1000 < 2 ^ 53
    few m h = omega arith

    over : (m : ℕ) → 0 < m → 0 < m * 1000
    over m h = omega arith

    low : (s : ℕ) → s ≤ 63 → s ≤ 900
    low s h = omega arith

    room : (s : ℕ) → s ≤ 63 → 18 + s ≤ 82
    room s h = omega arith

    go : (b : Bool) → ltb 0 e.multiplier && leb e.scale 63 ≡ b → known_if b v (wire_of e) ≡ Known x → KnownError e x
    go false t h = absurd (clash h)
    go true t h =
        let some = ltb-true 0 e.multiplier (both (ltb 0 e.multiplier) (leb e.scale 63) t).0 in
        let six = leb-true e.scale 63 (both (ltb 0 e.multiplier) (leb e.scale 63) t).1 in
        record {
          some = mul-pos (over e.multiplier some) (pow_pos e.scale);
          bounded = le_trans (mul-le-mul_right (2 ^ e.scale) (product e.multiplier M)) (le_trans (le_of_eq (sym (pow-add 2 18 e.scale))) (pow_mono (room e.scale six)));
          exact = subst (λ (y : Float). HasValue y false (size e) (2 ^ 32)) (sym (same h)) (scaled_exact (e.multiplier * 1000) e.scale 32 (few e.multiplier M) (low e.scale six) (lit≤ tt));
          Only = same h;
        }
      where
        both : (a b : Bool) → a && b ≡ true → (a ≡ true) × (b ≡ true)
        both true true h = (refl, refl)
        both true false h = absurd (true≢false (sym h))
        both false b h = absurd (true≢false (sym h))

-- ---- so a combined error is above 0 and finite
pub combined_positive : (s r : ErrorEstimate) (x y : Float) → KnownError s x → KnownError r y → T (positive (add binary64 x y))
combined_positive s r x y p q =
    between x (add binary64 x y) top (positive_of_value x (size s) (2 ^ 32) p.exact p.some) (positive_of_value top (1 * 2 ^ 90) (2 ^ 32) top_value (mul-pos (zero-lt-suc 0) (pow_pos 90)))
    (subst (λ (z : Float). T (le z (add binary64 x y))) (sym p.Only) (subst (λ (z : Float). T (le (round binary64 false (size s) (2 ^ 32)) z)) (sym together)
    (round_mono binary64 (size s) (2 ^ 32) (size s + size r) (2 ^ 32) (pow_pos 32) (pow_pos 32) (mul-le-mul_right (2 ^ 32) (le-add_right (size s) (size r))))))
    (subst (λ (z : Float). T (le z top)) (sym together)
    (round_mono binary64 (size s + size r) (2 ^ 32) (1 * 2 ^ 90) (2 ^ 32) (pow_pos 32) (pow_pos 32) (mul-le-mul_right (2 ^ 32) (under (size s) (size r) p.bounded q.bounded))))
  where
    top : Float
    top = round binary64 false (1 * 2 ^ 90) (2 ^ 32)

    top_value : HasValue top false (1 * 2 ^ 90) (2 ^ 32)
    top_value = scaled_exact 1 90 32 (lt_of_lt_of_le (zero_lt_one) (lit≤ tt)) (lit≤ tt) (lit≤ tt)
      where
        zero_lt_one : 1 < 2
        zero_lt_one = omega arith

    together : add binary64 x y ≡ round binary64 false (size s + size r) (2 ^ 32)
    together = add_fractions x y (size s) (size r) (2 ^ 32) (pow_pos 32) p.exact q.exact

    under : (a b : ℕ) → a ≤ 2 ^ 82 → b ≤ 2 ^ 82 → a + b ≤ 1 * 2 ^ 90
    under a b h k = omega arith

-- ---- the order of positive floats
either : (x y : Float) → T (positive x) → T (positive y) → le x y ≡ false → T (le y x)
either x y p q h = cross→le y x q p (le_of_lt (lt_of_not (λ (g : num x * den y ≤ num y * den x). true≢false (sym (is_true (le x y) (cross→le x y p q g)) ∙ h))))
  where
    lt_of_not : {a b : ℕ} → (a ≤ b → ⊥) → b < a
    lt_of_not {a} {b} h = omega arith

    is_true : (b : Bool) → T b → b ≡ true
    is_true true t = refl
    is_true false t = absurd t

reflexive : (x : Float) → T (positive x) → T (le x x)
reflexive x p = cross→le x x p p (same (num x * den x))
  where
    same : (n : ℕ) → n ≤ n
    same n = omega arith

-- ---- which samples have a combined error
some_or_none : (t : Float) → None ≡ Some t → ⊥
some_or_none t h = let z : ◌≡◌ {A = ℕ} 0 1 = cc in omega arith

the_same : (t u : Float) → Some u ≡ Some t → t ≡ u
the_same t u h = cc

module _ (s r : ErrorEstimate) where
  abbrev paired : Option Float
  paired = largest_of None (reading_of s) (reading_of r)

  by_errors : (a b : Reading) → reading_of s ≡ a → reading_of r ≡ b → paired ≡ largest_of None a b
  by_errors a b p q = ap (λ (x : Reading). largest_of None x (reading_of r)) p ∙ ap (largest_of None a) q

  pair_positive : s.multiplier < 256 → r.multiplier < 256 → (t : Float) → paired ≡ Some t → T (positive t)
  pair_positive m n t h = go (reading_of s) (reading_of r) refl refl
    where
      go : (a b : Reading) → reading_of s ≡ a → reading_of r ≡ b → T (positive t)
      go (Known x) (Known y) p q = subst (λ (z : Float). T (positive z)) (sym (the_same t (add binary64 x y) (sym (by_errors (Known x) (Known y) p q) ∙ h))) (combined_positive s r x y (known_error s x m p) (known_error r y n q))
      go (Known x) (Invalid w) p q = absurd (some_or_none t (sym (by_errors (Known x) (Invalid w) p q) ∙ h))
      go (Invalid w) b p q = absurd (some_or_none t (sym (by_errors (Invalid w) b p q) ∙ h))

all_positive : (es : List (Option (ErrorEstimate × ErrorEstimate))) → InRange es → (t : Float) → Combined t es → T (positive t)
all_positive [] R t h = absurd h
all_positive (None ∷ es) R t (inl h) = absurd (some_or_none t h)
all_positive (None ∷ es) R t (inr h) = all_positive es R t h
all_positive (Some (s, r) ∷ es) R t (inl h) = pair_positive s r R.0 R.1 t h
all_positive (Some (s, r) ∷ es) R t (inr h) = all_positive es R.2 t h

-- ---- one sample more
without : (e : Option (ErrorEstimate × ErrorEstimate)) (es : List (Option (ErrorEstimate × ErrorEstimate))) (l : Option Float) → ((t : Float) → largest_with None e ≡ Some t → ⊥) → Largest es l → Largest (e ∷ es) l
without e es None none h = λ t. go t
  where
    go : (t : Float) → Combined t (e ∷ es) → ⊥
    go t (inl k) = none t k
    go t (inr k) = h t k
without e es (Some m) none h = (inr h.0, λ t. go t)
  where
    go : (t : Float) → Combined t (e ∷ es) → T (le t m)
    go t (inl k) = absurd (none t k)
    go t (inr k) = h.1 t k

module _ (e : Option (ErrorEstimate × ErrorEstimate)) (es : List (Option (ErrorEstimate × ErrorEstimate))) (u : Float) (k : largest_with None e ≡ Some u) (P : T (positive u)) (all : (t : Float) → Combined t es → T (positive t)) where
  itself : (t : Float) → largest_with None e ≡ Some t → t ≡ u
  itself t h = the_same t u (sym k ∙ h)

  with_one : (l : Option Float) → Largest es l → Largest (e ∷ es) (larger_of l u)
  with_one None h = (inl k, λ t. go t)
    where
      go : (t : Float) → Combined t (e ∷ es) → T (le t u)
      go t (inl g) = subst (λ (z : Float). T (le z u)) (sym (itself t g)) (reflexive u P)
      go t (inr g) = absurd (h t g)
  with_one (Some m) h = test (le u m) refl
    where
      test : (b : Bool) → le u m ≡ b → Largest (e ∷ es) (Some (cond b m u))
      test true c = (inr h.0, λ t. go t)
        where
          go : (t : Float) → Combined t (e ∷ es) → T (le t m)
          go t (inl g) = subst (λ (z : Float). T (le z m)) (sym (itself t g)) (yes c)
          go t (inr g) = h.1 t g
      test false c = (inl k, λ t. go t)
        where
          go : (t : Float) → Combined t (e ∷ es) → T (le t u)
          go t (inl g) = subst (λ (z : Float). T (le z u)) (sym (itself t g)) (reflexive u P)
          go t (inr g) = le_trans_positive t m u (all t g) (all m h.0) P (h.1 t g) (either u m P (all m h.0) c)

pair_more : (s r : ErrorEstimate) (es : List (Option (ErrorEstimate × ErrorEstimate))) (l : Option Float) → s.multiplier < 256 → r.multiplier < 256 → InRange es → Largest es l → Largest (Some (s, r) ∷ es) (largest_of l (reading_of s) (reading_of r))
pair_more s r es l m n R h = go (reading_of s) (reading_of r) refl refl
  where
    go : (a b : Reading) → reading_of s ≡ a → reading_of r ≡ b → Largest (Some (s, r) ∷ es) (largest_of l a b)
    go (Known x) (Known y) p q =
        let u = add binary64 x y in
        let k = by_errors s r (Known x) (Known y) p q in
        with_one (Some (s, r)) es u k (pair_positive s r m n u k) (all_positive es R) l h
    go (Known x) (Invalid w) p q = without (Some (s, r)) es l (λ t g. some_or_none t (sym (by_errors s r (Known x) (Invalid w) p q) ∙ g)) h
    go (Invalid w) b p q = without (Some (s, r)) es l (λ t g. some_or_none t (sym (by_errors s r (Invalid w) b p q) ∙ g)) h

-- what `largest_among` folds is the largest
pub largest_among_lem : (es : List (Option (ErrorEstimate × ErrorEstimate))) → InRange es → Largest es (largest_among es)
unfolding largest_among
largest_among_lem [] R = λ t h. h
largest_among_lem (None ∷ es) R = without None es (largest_among es) some_or_none (largest_among_lem es R)
largest_among_lem (Some (s, r) ∷ es) R = pair_more s r es (largest_among es) R.0 R.1 R.2 (largest_among_lem es R.2)
