-- A word's item and its bytes, the first bad one, and items one after the other: what the proofs of the functions cite. Assumes nothing.
use Rattle.std.specs.Prelude.{Some, None, Result, Ok, Err}
use Rattle.limits.specs.declared.Refusal.{Refusal}
use Rattle.limits.specs.declared.Refusal.TheVariants as refusal
use mathlib.Core.Path.{◌≡◌, refl, sym, ap, ◌∙◌}
use mathlib.Core.Bool.{Bool, true, false, cond}
use mathlib.Core.List.{List, [], ◌∷◌, ◌++◌}
use Prim.Native.Nat.{ℕ, zero, suc, ◌+◌, ◌-◌, ◌/◌, ◌%◌, ◌≤◌, ◌<◌}
use native.Mathlib.Nat.{zero-add}
use native.Mathlib.Numerals.{add-one}
use native.Mathlib.Omega.{arith}
use lib.Dec.{ltb, eqb}
use lib.ListN.{length, get_or, set, take, drop, length-append, length-drop, get_or-append}
use lib.Seq.{length-take-le, get_or-take, get_or-drop, get_or-append-add, take_all, take-add, take_at, drop_at, drop-cons, drop-length, drop-drop, drop-append-add, paste, paste-suc}
use borrow.Author.Tests.{lt-ltb, le-ltb, ltb-false, eq-eqb, ne_eqb, eqb-true}
use Rattle.area_items.specs.Items.{fits}
use Rattle.area_items.specs.Rows.{item_bytes, written_value, as_written}
use Rattle.area_items.proofs.Laws.{seven}
use Rattle.area_write.specs.Write.{flags_of, kind_of, length_of, place_of, item_in, verdict_in, unless, first_bad, size_of, needed, sized, row_of, outcome, write_into}

-- ---- one word

abbrev pub wire : List ℕ → ℕ → List ℕ
wire values word = item_bytes (as_written (item_in values word))

module _ (values : List ℕ) (word : ℕ) where
  pub past_end : length values < place_of word + length_of word → Err refusal.PassesEnd ≡ verdict_in values word
  unfolding verdict_in
  past_end h = rw (lt-ltb (length values) (place_of word + length_of word) h)

  pub right : place_of word + length_of word ≤ length values → fits (kind_of word) (length_of word) ≡ true → Ok tt ≡ verdict_in values word
  unfolding verdict_in
  right h e = rw (le-ltb (length values) (place_of word + length_of word) h, e)

  pub wrong : place_of word + length_of word ≤ length values → fits (kind_of word) (length_of word) ≡ false → Err refusal.WrongLength ≡ verdict_in values word
  unfolding verdict_in
  wrong h e = rw (le-ltb (length values) (place_of word + length_of word) h, e)

  pub good : verdict_in values word ≡ Ok tt → (place_of word + length_of word ≤ length values) × (fits (kind_of word) (length_of word) ≡ true)
  unfolding verdict_in
  good = by (ltb (length values) (place_of word + length_of word)) (fits (kind_of word) (length_of word)) refl refl
    where
      by : (a b : Bool) → ltb (length values) (place_of word + length_of word) ≡ a → fits (kind_of word) (length_of word) ≡ b
          → ◌≡◌ {A = Result (Unit {0}) Refusal} (cond a (Err refusal.PassesEnd) (cond b (Ok tt) (Err refusal.WrongLength))) (Ok tt) → (place_of word + length_of word ≤ length values) × (fits (kind_of word) (length_of word) ≡ true)
      by true b p q e = absurd (cc)
      by false true p q e = (ltb-false (length values) (place_of word + length_of word) p, q)
      by false false p q e = absurd (cc)

  module _ (ok : verdict_in values word ≡ Ok tt) where
    abbrev value : List ℕ
    value = take (length_of word) (drop (place_of word) values)

    value-length : length value ≡ length_of word
    value-length = length-take-le (length_of word) (drop (place_of word) values) (omega (arith, (good ok).0, length-drop (place_of word) values))

    seven_length : kind_of word ≡ 7 → length_of word ≡ 16
    seven_length k = eqb-true (length_of word) 16 (seven (kind_of word) (length_of word) (λ z. omega (arith, k, z)) k ∙ (good ok).1)

    thirteen : kind_of word ≡ 7 → length (take 13 value) ≡ 13
    thirteen k = length-take-le 13 value (omega (arith, value-length, seven_length k))

    as_seven : kind_of word ≡ 7 → written_value (kind_of word) value ≡ take 13 value ++ 0 ∷ 0 ∷ 0 ∷ []
    unfolding written_value
    as_seven k = rw (eq-eqb (kind_of word) 7 k)

    as_it_is : (kind_of word ≡ 7 → ⊥) → written_value (kind_of word) value ≡ value
    unfolding written_value
    as_it_is k = rw (ne_eqb (kind_of word) 7 k)

    pub written-length : length (written_value (kind_of word) value) ≡ length_of word
    written-length = go (eqb (kind_of word) 7) refl
      where
        go : (b : Bool) → eqb (kind_of word) 7 ≡ b → length (written_value (kind_of word) value) ≡ length_of word
        go true e =
            let k = eqb-true (kind_of word) 7 e in
            ap length (as_seven k) ∙ length-append (take 13 value) (0 ∷ 0 ∷ 0 ∷ []) ∙ ap (λ (n : ℕ). n + 3) (thirteen k) ∙ sym (seven_length k)
        go false e = ap length (as_it_is (λ k. omega (arith, false_then k))) ∙ value-length
          where
            false_then : kind_of word ≡ 7 → ◌≡◌ {A = ℕ} 0 1
            false_then k = let t = eq-eqb (kind_of word) 7 k in cc

    pub wire_length : length (wire values word) ≡ size_of word
    wire_length = omega (arith, written-length)

    -- its bytes
    pub byte_zero : (at n : ℕ) → at ≡ 0 → n ≡ flags_of word → n ≡ get_or (wire values word) at 0
    byte_zero at n h e = rw h e

    pub byte_one : (at n : ℕ) → at ≡ 1 → n ≡ kind_of word → n ≡ get_or (wire values word) at 0
    byte_one at n h e = rw h e

    pub byte_two : (at n : ℕ) → at ≡ 2 → n ≡ length_of word → n / 256 ≡ get_or (wire values word) at 0
    byte_two at n h e = rw h (ap (λ (m : ℕ). m / 256) (e ∙ sym written-length))

    pub byte_three : (at n : ℕ) → at ≡ 3 → n ≡ length_of word → n % 256 ≡ get_or (wire values word) at 0
    byte_three at n h e = rw h (ap (λ (m : ℕ). m % 256) (e ∙ sym written-length))

    behind : (at : ℕ) → get_or (wire values word) (at + 4) 0 ≡ get_or (written_value (kind_of word) value) at 0
    behind at = let e : at + 4 ≡ suc (suc (suc (suc at))) = omega arith in rw e

    lent : (at : ℕ) → at < length_of word → get_or value at 0 ≡ get_or values (place_of word + at) 0
    lent at h = get_or-take (length_of word) (drop (place_of word) values) at 0 h ∙ get_or-drop (place_of word) values at 0

    zeros : (k : ℕ) → ◌≡◌ {A = ℕ} (get_or (0 ∷ 0 ∷ 0 ∷ []) k 0) 0
    zeros zero = refl
    zeros (suc zero) = refl
    zeros (suc (suc zero)) = refl
    zeros (suc (suc (suc k))) = refl

    pub byte_reserved : (at : ℕ) → kind_of word ≡ 7 → 12 < at → 0 ≡ get_or (wire values word) (at + 4) 0
    byte_reserved at k h =
        let e : at ≡ 13 + (at - 13) = omega arith in
        sym (behind at
        ∙ ap (λ (l : List ℕ). get_or l at 0) (as_seven k)
        ∙ ap (λ (n : ℕ). get_or (take 13 value ++ 0 ∷ 0 ∷ 0 ∷ []) n 0) (e ∙ ap (λ (n : ℕ). n + (at - 13)) (sym (thirteen k)))
        ∙ get_or-append-add (take 13 value) (0 ∷ 0 ∷ 0 ∷ []) (at - 13) 0
        ∙ zeros (at - 13))

    pub byte_seven : (at n : ℕ) → kind_of word ≡ 7 → at ≤ 12 → n ≡ place_of word → get_or values (n + at) 0 ≡ get_or (wire values word) (at + 4) 0
    byte_seven at n k h e =
        ap (λ (m : ℕ). get_or values (m + at) 0) e
        ∙ sym (behind at
        ∙ ap (λ (l : List ℕ). get_or l at 0) (as_seven k)
        ∙ get_or-append (take 13 value) (0 ∷ 0 ∷ 0 ∷ []) 0 at (omega (arith, thirteen k))
        ∙ get_or-take 13 value at 0 (omega arith)
        ∙ lent at (omega (arith, seven_length k)))

    pub byte-other : (at n : ℕ) → (kind_of word ≡ 7 → ⊥) → at < length_of word → n ≡ place_of word → get_or values (n + at) 0 ≡ get_or (wire values word) (at + 4) 0
    byte-other at n k h e = ap (λ (m : ℕ). get_or values (m + at) 0) e ∙ sym (behind at ∙ ap (λ (l : List ℕ). get_or l at 0) (as_it_is k) ∙ lent at h)

    -- one more byte of it written
    pub put_more : (room r : List ℕ) (at j b : ℕ) → j < size_of word → at + size_of word ≤ length room → r ≡ paste room at (wire values word) j → b ≡ get_or (wire values word) j 0
        → set r (at + j) b ≡ paste room at (wire values word) (j + 1)
    put_more room r at j b h k e f =
        ap (λ (l : List ℕ). set l (at + j) b) e
        ∙ ap (set (paste room at (wire values word) j) (at + j)) f
        ∙ paste-suc room at (wire values word) j 0 (omega arith) (omega (arith, wire_length))
        ∙ ap (paste room at (wire values word)) (sym (add-one j))

-- ---- the first bad item

abbrev Verdict : Type 0
Verdict = Result (Unit {0}) Refusal

pub both-good : (a b : Result (Unit {0}) Refusal) → unless a b ≡ Ok tt → (a ≡ Ok tt) × (b ≡ Ok tt)
both-good (Ok _) b e = (refl, e)
both-good (Err d) b e = absurd (cc)

module _ (values words : List ℕ) (k : ℕ) where
  bad-step : k < length words → first_bad values (drop k words) ≡ unless (verdict_in values (get_or words k 0)) (first_bad values (drop (k + 1) words))
  unfolding first_bad
  bad-step h = rw (add-one, drop-cons words k 0 h)

  pub bad_here : k < length words → (e : Refusal) → Err e ≡ verdict_in values (get_or words k 0) → first_bad values words ≡ first_bad values (drop k words) → Err e ≡ first_bad values words
  bad_here h e is s = sym (s ∙ bad-step h ∙ ap (λ (x : Verdict). unless x (first_bad values (drop (k + 1) words))) (sym is))

  pub bad_later : k < length words → Ok tt ≡ verdict_in values (get_or words k 0) → first_bad values words ≡ first_bad values (drop k words)
      → first_bad values words ≡ first_bad values (drop (k + 1) words)
  bad_later h is s = s ∙ bad-step h ∙ ap (λ (x : Verdict). unless x (first_bad values (drop (k + 1) words))) (sym is)

  pub bad-none : length words ≤ k → k ≤ length words → first_bad values words ≡ first_bad values (drop k words) → Ok tt ≡ first_bad values words
  unfolding first_bad
  bad-none h l s = let e : length words ≡ k = omega arith in sym (s ∙ ap (λ (n : ℕ). first_bad values (drop n words)) (sym e) ∙ ap (first_bad values) (drop-length words))

  pub this_good : k < length words → first_bad values (drop k words) ≡ Ok tt → (verdict_in values (get_or words k 0) ≡ Ok tt) × (first_bad values (drop (k + 1) words) ≡ Ok tt)
  this_good h s = both-good (verdict_in values (get_or words k 0)) (first_bad values (drop (k + 1) words)) (sym (bad-step h) ∙ s)

-- ---- how much is needed

module _ (words : List ℕ) (k : ℕ) where
  pub needed-step : k < length words → needed (drop k words) ≡ size_of (get_or words k 0) + needed (drop (k + 1) words)
  unfolding needed
  needed-step h = rw (add-one, drop-cons words k 0 h)

  pub needed-none : length words ≤ k → k ≤ length words → needed (drop k words) ≡ 0
  unfolding needed
  needed-none h l = let e : length words ≡ k = omega arith in ap (λ (n : ℕ). needed (drop n words)) (sym e) ∙ ap needed (drop-length words)

-- ---- items one after the other

pub row_step : (values words : List ℕ) (k : ℕ) → k < length words → row_of values (drop k words) ≡ wire values (get_or words k 0) ++ row_of values (drop (k + 1) words)
row_step values words k h = ap (row_of values) (drop-cons words k 0 h ∙ ap (λ (n : ℕ). get_or words k 0 ∷ drop n words) (sym (add-one k)))

pub row_length : (values words : List ℕ) → first_bad values words ≡ Ok tt → length (row_of values words) ≡ needed words
unfolding needed first_bad
row_length values [] e = refl
row_length values (w ∷ ws) e =
    let g = both-good (verdict_in values w) (first_bad values ws) e in
    length-append (wire values w) (row_of values ws)
    ∙ ap (λ (n : ℕ). n + length (row_of values ws)) (wire_length values w g.0)
    ∙ ap (λ (n : ℕ). size_of w + n) (row_length values ws g.1)

-- a copy that goes on where another ended
pub paste_more : (d s w : List ℕ) (at n : ℕ) → length w ≡ n → take n (drop at s) ≡ w → at + n ≤ length d → at + n ≤ length s → paste (paste d 0 s at) at w n ≡ paste d 0 s (at + n)
paste_more d s w at n lw e hd hs =
    let front = take at s in
    let lf : length front ≡ at = length-take-le at s (omega arith) in
    let back : drop (at + n) (front ++ drop (0 + at) d) ≡ drop (0 + (at + n)) d =
    ap (λ (m : ℕ). drop (m + n) (front ++ drop (0 + at) d)) (sym lf)
    ∙ drop-append-add front (drop (0 + at) d) n
    ∙ drop-drop n (0 + at) d
    ∙ ap (λ (m : ℕ). drop m d) (same at n) in
    ap (λ (l : List ℕ). l ++ take n w ++ drop (at + n) (front ++ drop (0 + at) d)) (take_at front (drop (0 + at) d) at lf)
    ∙ ap (λ (l : List ℕ). front ++ l ++ drop (at + n) (front ++ drop (0 + at) d)) (take_all n w (omega arith) ∙ sym e)
    ∙ ap (λ (l : List ℕ). (front ++ take n (drop at s)) ++ l) back
    ∙ ap (λ (l : List ℕ). l ++ drop (0 + (at + n)) d) (sym (take-add at n s))
  where
    same : (a b : ℕ) → 0 + a + b ≡ 0 + (a + b)
    same a b = omega arith

-- ---- one item more in a row

module _ (values words : List ℕ) (k at n : ℕ) (h : k < length words) (ok : first_bad values (drop k words) ≡ Ok tt)
    (row : drop at (row_of values words) ≡ row_of values (drop k words)) (size : n ≡ size_of (get_or words k 0)) where
  own-length : length (wire values (get_or words k 0)) ≡ n
  own-length = wire_length values (get_or words k 0) (this_good values words k h ok).0 ∙ sym size

  pub row_on : drop (at + n) (row_of values words) ≡ row_of values (drop (k + 1) words)
  row_on =
      sym (drop-drop n at (row_of values words))
      ∙ ap (drop n) (row ∙ row_step values words k h)
      ∙ drop_at (wire values (get_or words k 0)) (row_of values (drop (k + 1) words)) n own-length

  pub put_on : (room r after : List ℕ) → at + n ≤ length room → at + n ≤ length (row_of values words) → r ≡ paste room 0 (row_of values words) at
      → after ≡ paste r at (wire values (get_or words k 0)) (size_of (get_or words k 0)) → after ≡ paste room 0 (row_of values words) (at + n)
  put_on room r after l m e f =
      f
      ∙ ap (paste r at (wire values (get_or words k 0))) (sym size)
      ∙ ap (λ (x : List ℕ). paste x at (wire values (get_or words k 0)) n) e
      ∙ paste_more room (row_of values words) (wire values (get_or words k 0)) at n own-length
      (ap (take n) (row ∙ row_step values words k h) ∙ take_at (wire values (get_or words k 0)) (row_of values (drop (k + 1) words)) n own-length) l m

-- ---- the answers

pub short_size : (most : ℕ) (words : List ℕ) → most < needed words → None ≡ sized most words
short_size most words h = rw (lt-ltb most (needed words) h)

pub enough_size : (most n : ℕ) (words : List ℕ) → needed words ≤ most → n ≡ needed words → Some n ≡ sized most words
enough_size most n words h e = rw (le-ltb most (needed words) h) (ap Some e)

module _ (words values room : List ℕ) where
  pub write-bad : (e : Refusal) → Err e ≡ first_bad values words → outcome (Err e) room ≡ write_into words values room
  unfolding write_into
  write-bad e is = rw (← is)

  module _ (e : Ok tt ≡ first_bad values words) where
    short_is : (b : Bool) → None ≡ cond b None (Some (needed words)) → b ≡ true
    short_is true f = refl
    short_is false f = absurd (cc)

    enough_is : (b : Bool) (m : ℕ) → Some m ≡ cond b None (Some (needed words)) → (b ≡ false) × (m ≡ needed words)
    enough_is true m f = absurd (cc)
    enough_is false m f = (refl, cc)

    pub write_short : None ≡ sized (length room) words → outcome (Err refusal.ShortRoom) room ≡ write_into words values room
    unfolding write_into
    write_short f = rw (← e, short_is (ltb (length room) (needed words)) f)

    pub size_is : (m : ℕ) → Some m ≡ sized (length room) words → needed words ≤ length room
    size_is m f = ltb-false (length room) (needed words) (enough_is (ltb (length room) (needed words)) m f).0

    pub write-good : (m : ℕ) (after : List ℕ) → Some m ≡ sized (length room) words → after ≡ paste room 0 (row_of values words) (needed words) → outcome (Ok m) after ≡ write_into words values room
    unfolding write_into
    write-good m after f p =
        let q = enough_is (ltb (length room) (needed words)) m f in
        rw (← e, q.0)
        (ap (λ (k : ℕ). outcome (Ok k) after) q.1
        ∙ ap (outcome (Ok (needed words)))
        (p
        ∙ ap (λ (l : List ℕ). l ++ drop (0 + needed words) room) (take_all (needed words) (row_of values words) (omega (arith, row_length values words (sym e))))
        ∙ ap (λ (k : ℕ). row_of values words ++ drop k room) (zero-add (needed words))))
