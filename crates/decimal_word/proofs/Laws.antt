-- What the proofs of this crate's functions need of the definitions. Assumes nothing.
use Rattle.std.specs.Prelude.{Option, Some, None}
use mathlib.Core.Path.{◌≡◌, refl, sym, ap, ap₂, ◌∙◌, subst}
use mathlib.Core.Bool.{Bool, true, false, ◌&&◌, cond}
use mathlib.Core.List.{List, [], ◌∷◌}
use Prim.Native.Nat.{ℕ, ◌+◌, ◌-◌, ◌*◌, ◌≤◌, ◌<◌}
use native.Mathlib.Numerals.{add-one}
use native.Mathlib.Nat.{le_trans}
use native.Mathlib.Omega.{arith}
use lib.Dec.{eqb, leb}
use lib.ListN.{length, get_or, drop, drop_of_length-le}
use lib.Seq.{drop-cons}
use borrow.Author.Tests.{le-leb, lt-leb, leb-true, eq-eqb, ne_eqb}
use Rattle.decimal.specs.Decimal.{value_after, value_of}
use Rattle.decimal_word.specs.Words.{all_digits, within, word_of, small_by, small_of}

next_of : (w : List ℕ) (i : ℕ) → i < length w → drop i w ≡ get_or w i 0 ∷ drop (i + 1) w
next_of w i h = drop-cons w i 0 h ∙ ap (λ (n : ℕ). get_or w i 0 ∷ drop n w) (sym (add-one i))

-- ---- digits

abbrev three : Bool → Bool → Bool → Bool
three a b c = a && b && c

pub digits_step : (w : List ℕ) (i : ℕ) → i < length w → 48 ≤ get_or w i 0 → get_or w i 0 ≤ 57 → all_digits (drop i w) ≡ all_digits (drop (i + 1) w)
digits_step w i h l m =
    ap all_digits (next_of w i h) ∙ ap₂ (λ (a b : Bool). three a b (all_digits (drop (i + 1) w))) (le-leb 48 (get_or w i 0) l) (le-leb (get_or w i 0) 57 m)

pub digits_low : (w : List ℕ) (i : ℕ) → i < length w → get_or w i 0 < 48 → all_digits (drop i w) ≡ false
digits_low w i h l =
    ap all_digits (next_of w i h) ∙ ap (λ (a : Bool). three a (leb (get_or w i 0) 57) (all_digits (drop (i + 1) w))) (lt-leb 48 (get_or w i 0) l)

pub digits-high : (w : List ℕ) (i : ℕ) → i < length w → 48 ≤ get_or w i 0 → 57 < get_or w i 0 → all_digits (drop i w) ≡ false
digits-high w i h l m =
    ap all_digits (next_of w i h) ∙ ap₂ (λ (a b : Bool). three a b (all_digits (drop (i + 1) w))) (le-leb 48 (get_or w i 0) l) (lt-leb (get_or w i 0) 57 m)

pub digits_end : (w : List ℕ) (i : ℕ) → length w ≤ i → all_digits (drop i w) ≡ true
digits_end w i h = ap all_digits (drop_of_length-le w h)

all_three : (a b c : Bool) → three a b c ≡ true → (a ≡ true) × (b ≡ true) × (c ≡ true)
all_three true true true e = (refl, refl, refl)
all_three true true false e = absurd (let z : ◌≡◌ {A = ℕ} 0 1 = cc in omega arith)
all_three true false c e = absurd (let z : ◌≡◌ {A = ℕ} 0 1 = cc in omega arith)
all_three false b c e = absurd (let z : ◌≡◌ {A = ℕ} 0 1 = cc in omega arith)

pub digit_at : (w : List ℕ) (i : ℕ) → i < length w → all_digits (drop i w) ≡ true
    → (48 ≤ get_or w i 0) × (get_or w i 0 ≤ 57) × (all_digits (drop (i + 1) w) ≡ true)
digit_at w i h e =
    let t = all_three (leb 48 (get_or w i 0)) (leb (get_or w i 0) 57) (all_digits (drop (i + 1) w)) (sym (ap all_digits (next_of w i h)) ∙ e) in
    (leb-true 48 (get_or w i 0) t.0, leb-true (get_or w i 0) 57 t.1, t.2)

-- ---- the number

pub value-step : (w : List ℕ) (i v : ℕ) → i < length w → value_after v (drop i w) ≡ value_after (v * 10 + (get_or w i 0 - 48)) (drop (i + 1) w)
value-step w i v h = ap (value_after v) (next_of w i h)

-- more digits make it no smaller
grows : (v : ℕ) (bs : List ℕ) → v ≤ value_after v bs
grows v [] = omega arith
grows v (b ∷ bs) = le_trans (more v (b - 48)) (grows (v * 10 + (b - 48)) bs)
  where
    more : (v d : ℕ) → v ≤ v * 10 + d
    more v d = omega arith

pub past : (w : List ℕ) (most i v : ℕ) → i < length w → value_of w ≡ value_after v (drop i w) → most < v * 10 + (get_or w i 0 - 48)
    → None ≡ within w most
unfolding within
past w most i v h e l =
    sym (ap (λ (b : Bool). cond b (Some (value_of w)) None) (lt-leb (value_of w) most (le_trans l above)))
  where
    above : v * 10 + (get_or w i 0 - 48) ≤ value_of w
    above = subst (λ (n : ℕ). v * 10 + (get_or w i 0 - 48) ≤ n) (sym (e ∙ value-step w i v h)) (grows (v * 10 + (get_or w i 0 - 48)) (drop (i + 1) w))

pub reached : (w : List ℕ) (most i v : ℕ) → length w ≤ i → v ≤ most → value_of w ≡ value_after v (drop i w) → Some v ≡ within w most
unfolding within
reached w most i v h l e =
    let q : value_of w ≡ v = e ∙ ap (value_after v) (drop_of_length-le w h) in
    ap Some (sym q)
    ∙ sym (ap (λ (b : Bool). cond b (Some (value_of w)) None) (le-leb (value_of w) most (subst (λ (n : ℕ). n ≤ most) (sym q) l)))

-- ---- the word

abbrev word_by : List ℕ → ℕ → Bool → Bool → Option ℕ
word_by w most none digits = cond none None (cond digits (within w most) None)

module _ (w : List ℕ) (most : ℕ) where
  pub word-empty : length w ≡ 0 → None ≡ word_of w most
  unfolding word_of
  word-empty h = sym (ap (λ (b : Bool). word_by w most b (all_digits w)) (eq-eqb (length w) 0 h))

  pub word-digits : (length w ≡ 0 → ⊥) → all_digits w ≡ true → within w most ≡ word_of w most
  unfolding word_of
  word-digits n h = sym (ap₂ (word_by w most) (ne_eqb (length w) 0 n) h)

  pub word-other : (length w ≡ 0 → ⊥) → all_digits w ≡ false → None ≡ word_of w most
  unfolding word_of
  word-other n h = sym (ap₂ (word_by w most) (ne_eqb (length w) 0 n) h)

-- a number that a word says is not above the bound
pub word_fits : (w : List ℕ) (most n : ℕ) → word_of w most ≡ Some n → n ≤ most
unfolding word_of within
word_fits w most n e = by (eqb (length w) 0) (all_digits w) (leb (value_of w) most) refl e
  where
    no : None ≡ Some n → ⊥
    no q = let z : ◌≡◌ {A = ℕ} 0 1 = cc in omega arith

    by : (a b c : Bool) → leb (value_of w) most ≡ c → cond a None (cond b (cond c (Some (value_of w)) None) None) ≡ Some n → n ≤ most
    by true b c f q = absurd (no q)
    by false false c f q = absurd (no q)
    by false true false f q = absurd (no q)
    by false true true f q = let s : value_of w ≡ n = cc in subst (λ (m : ℕ). m ≤ most) s (leb-true (value_of w) most f)

pub small_by_lem : (w : List ℕ) (l k : Option ℕ) → l ≡ word_of w 65535 → l ≡ k → small_by k ≡ small_of w
unfolding small_of
small_by_lem w l k e n = ap small_by (sym n ∙ e)
