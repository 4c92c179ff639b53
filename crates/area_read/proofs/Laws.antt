-- Counting and listing the items one after the other: what the proofs of the functions cite. Assumes nothing.
use Rattle.std.specs.Prelude.{Result, Ok, Err}
use Rattle.limits.specs.declared.Refusal.{Refusal}
use mathlib.Core.Path.{◌≡◌, refl, sym, ap, ◌∙◌, subst}
use mathlib.Core.Bool.{Bool, true, false}
use mathlib.Core.List.{List, [], ◌∷◌}
use Prim.Native.Nat.{ℕ, zero, suc, ◌+◌, ◌≤◌, ◌<◌, min}
use native.Mathlib.Nat.{zero-add}
use native.Mathlib.Numerals.{add-one}
use native.Mathlib.Omega.{arith}
use lib.Dec.{ltb}
use lib.ListN.{length, get_or, set, drop, length-drop, length-map}
use lib.Seq.{paste, paste-suc, drop-cons}
use borrow.Author.Tests.{ltb-true, ltb-false}
use Rattle.area_items.specs.Items.{Item, Reading, refused, items, before, end_at, item_at, verdict_at, rest_of, area}
use Rattle.area_items.specs.Rows.{word_of}
use Rattle.area_items.proofs.Laws.{rest_end, rest_bad, rest_good}
use Rattle.area_read.specs.Read.{checked_of, items_of, words_of, listed, outcome, read_into}

-- ---- counting

-- an answer with so many items before it
abbrev pub later : ℕ → Result ℕ Refusal → Result ℕ Refusal
later k (Err e) = Err e
later k (Ok n) = Ok (k + n)

later_none : (c : Result ℕ Refusal) → c ≡ later 0 c
later_none (Err e) = refl
later_none (Ok n) = ap Ok (sym (zero-add n))

pub counted_none : (bytes : List ℕ) → checked_of (area bytes) ≡ later 0 (checked_of (rest_of bytes 0))
unfolding area
counted_none bytes = later_none (checked_of (rest_of bytes 0))

later_one : (k : ℕ) (i : Item) (r : Reading) → later k (checked_of (before i r)) ≡ later (k + 1) (checked_of r)
later_one k i (refused e) = refl
later_one k i (items is) = ap Ok one_more
  where
    one_more : k + suc (length is) ≡ k + 1 + length is
    one_more = omega arith

module _ (bytes : List ℕ) (at k : ℕ) (so_far : checked_of (area bytes) ≡ later k (checked_of (rest_of bytes at))) (h : at < length bytes) where
  pub counted-bad : (e : Refusal) → Err e ≡ verdict_at bytes at → Err e ≡ checked_of (area bytes)
  counted-bad e is = sym (so_far ∙ ap (λ (r : Reading). later k (checked_of r)) (rest_bad bytes at h e is))

  pub counted_more : Ok tt ≡ verdict_at bytes at → checked_of (area bytes) ≡ later (k + 1) (checked_of (rest_of bytes (end_at bytes at)))
  counted_more is =
      so_far ∙ ap (λ (r : Reading). later k (checked_of r)) (rest_good bytes at h is) ∙ later_one k (item_at bytes at) (rest_of bytes (end_at bytes at))

pub counted_all : (bytes : List ℕ) (at k : ℕ) → checked_of (area bytes) ≡ later k (checked_of (rest_of bytes at)) → length bytes ≤ at → Ok k ≡ checked_of (area bytes)
counted_all bytes at k so_far h = sym (so_far ∙ ap (λ (r : Reading). later k (checked_of r)) (rest_end bytes at h) ∙ ap Ok none)
  where
    none : k + 0 ≡ k
    none = omega arith

-- ---- listing

-- what is known where there is a next item
pub record Next (bytes : List ℕ) (at : ℕ) : Type 0 where
  pub inside : at < length bytes
  pub right : verdict_at bytes at ≡ Ok tt
  pub is : items_of (rest_of bytes at) ≡ item_at bytes at ∷ items_of (rest_of bytes (end_at bytes at))

pub next : (bytes : List ℕ) (at : ℕ) → 0 < length (items_of (rest_of bytes at)) → Next bytes at
next bytes at h = by (ltb at (length bytes)) refl
  where
    none : (r : Reading) → r ≡ items [] → 0 < length (items_of r) → ⊥
    none r e l = let z : length (items_of r) ≡ 0 = ap (λ (x : Reading). length (items_of x)) e in omega arith

    bad : (e : Refusal) (r : Reading) → r ≡ refused e → 0 < length (items_of r) → ⊥
    bad e r is l = let z : length (items_of r) ≡ 0 = ap (λ (x : Reading). length (items_of x)) is in omega arith

    one : (i : Item) (r : Reading) → 0 < length (items_of (before i r)) → items_of (before i r) ≡ i ∷ items_of r
    one i (refused e) l = absurd (omega arith)
    one i (items is) l = refl

    right : at < length bytes → (v : Result (Unit {0}) Refusal) → v ≡ verdict_at bytes at → verdict_at bytes at ≡ Ok tt
    right l (Ok _) e = sym e
    right l (Err v) e = absurd (bad v (rest_of bytes at) (rest_bad bytes at l v e) h)

    by : (b : Bool) → ltb at (length bytes) ≡ b → Next bytes at
    by false e = absurd (none (rest_of bytes at) (rest_end bytes at (ltb-false at (length bytes) e)) h)
    by true e =
        let l = ltb-true at (length bytes) e in
        let v = right l (verdict_at bytes at) refl in
        let s = rest_good bytes at l (sym v) in
        record {
          inside = l;
          right = v;
          is = ap items_of s ∙ one (item_at bytes at) (rest_of bytes (end_at bytes at)) (subst (λ (r : Reading). 0 < length (items_of r)) s h);
        }

pub some : (bytes : List ℕ) (at k : ℕ) → k < length (items_of (area bytes)) → drop k (items_of (area bytes)) ≡ items_of (rest_of bytes at) → 0 < length (items_of (rest_of bytes at))
some bytes at k h e = omega (arith, ap length e, length-drop k (items_of (area bytes)))

pub none-listed : (bytes : List ℕ) → drop 0 (items_of (area bytes)) ≡ items_of (rest_of bytes 0)
unfolding area
none-listed bytes = refl

tail_of : (x y : Item) (l m : List Item) → x ∷ l ≡ y ∷ m → l ≡ m
tail_of x y l m e = cc

module _ (bytes : List ℕ) (at k : ℕ) (h : k < length (items_of (area bytes))) (e : drop k (items_of (area bytes)) ≡ items_of (rest_of bytes at)) where
  abbrev none_such : Item
  none_such = record { start = 0; flags = 0; kind = 0; value = [] }

  cut : get_or (items_of (area bytes)) k none_such ∷ drop (k + 1) (items_of (area bytes)) ≡ item_at bytes at ∷ items_of (rest_of bytes (end_at bytes at))
  cut =
      ap (λ (n : ℕ). get_or (items_of (area bytes)) k none_such ∷ drop n (items_of (area bytes))) (add-one k)
      ∙ sym (drop-cons (items_of (area bytes)) k none_such h)
      ∙ e
      ∙ (next bytes at (some bytes at k h e)).is

  pub one_less : drop (k + 1) (items_of (area bytes)) ≡ items_of (rest_of bytes (end_at bytes at))
  one_less = cc (cut)

  own : get_or (items_of (area bytes)) k none_such ≡ item_at bytes at
  own = cc (cut)

  word_there : (is : List Item) (n : ℕ) → n < length is → get_or (words_of is) n 0 ≡ word_of (get_or is n none_such)
  word_there [] n l = absurd (omega arith)
  word_there (i ∷ is) zero l = refl
  word_there (i ∷ is) (suc n) l = word_there is n (omega arith)

  pub listed_more : (room r : List ℕ) (w : ℕ) → k < length room → r ≡ paste room 0 (words_of (items_of (area bytes))) k → w ≡ word_of (item_at bytes at)
      → set r k w ≡ paste room 0 (words_of (items_of (area bytes))) (k + 1)
  listed_more room r w l p q =
      let ws = words_of (items_of (area bytes)) in
      ap (λ (m : List ℕ). set m k w) p
      ∙ ap (set (paste room 0 ws k) k) (q ∙ ap word_of (sym own) ∙ sym (word_there (items_of (area bytes)) k h))
      ∙ ap (λ (n : ℕ). set (paste room 0 ws k) n (get_or ws k 0)) (sym (zero-add k))
      ∙ paste-suc room 0 ws k 0 (omega arith) (omega (arith, length-map (items_of (area bytes)) word_of))
      ∙ ap (paste room 0 ws) (sym (add-one k))

-- ---- the answer

module _ (bytes room : List ℕ) where
  pub bad-area : (e : Refusal) → Err e ≡ checked_of (area bytes) → outcome (Err e) room ≡ read_into bytes room
  unfolding read_into
  bad-area e is = by (area bytes) is
    where
      by : (r : Reading) → Err e ≡ checked_of r → outcome (Err e) room ≡ outcome (checked_of r) (listed r room)
      by (refused d) h = ap (λ (c : Result ℕ Refusal). outcome c room) h
      by (items is) h = absurd (cc)

  pub count_is : (n : ℕ) → Ok n ≡ checked_of (area bytes) → n ≡ length (items_of (area bytes))
  count_is n is = by (area bytes) is
    where
      by : (r : Reading) → Ok n ≡ checked_of r → n ≡ length (items_of r)
      by (refused d) h = absurd (cc)
      by (items is) h = cc

  pub good-area : (n last : ℕ) (after : List ℕ) → Ok n ≡ checked_of (area bytes) → last ≡ min n (length room) → after ≡ paste room 0 (words_of (items_of (area bytes))) last
      → outcome (Ok n) after ≡ read_into bytes room
  unfolding read_into
  good-area n last after is l p = by (area bytes) is (p ∙ ap (paste room 0 (words_of (items_of (area bytes)))) l)
    where
      by : (r : Reading) → Ok n ≡ checked_of r → after ≡ paste room 0 (words_of (items_of r)) (min n (length room)) → outcome (Ok n) after ≡ outcome (checked_of r) (listed r room)
      by (refused d) h q = absurd (cc)
      by (items is) h q =
          let f : n ≡ length is = cc in
          ap (outcome (Ok n)) (q ∙ ap (λ (k : ℕ). paste room 0 (words_of is) (min k (length room))) f)
          ∙ ap (λ (c : Result ℕ Refusal). outcome c (paste room 0 (words_of is) (min (length is) (length room)))) h
