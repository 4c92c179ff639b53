-- The bytes of an area are its items in a row, and items in a row read back equal. Assumes nothing.
use Rattle.std.specs.Prelude.{Result, Ok, Err}
use Rattle.limits.specs.declared.Refusal.{Refusal}
use mathlib.Core.Path.{◌≡◌, refl, sym, ap, ◌∙◌}
use mathlib.Core.Bool.{Bool, true, false, cond}
use mathlib.Core.List.{List, [], ◌∷◌, ◌++◌, append_assoc}
use Prim.Native.Nat.{ℕ, zero, suc, ◌+◌, ◌-◌, ◌*◌, ◌/◌, ◌%◌, ◌≤◌, ◌<◌}
use native.Mathlib.Omega.{arith}
use native.Mathlib.Numerals.{add-one}
use lib.Dec.{ltb}
use lib.ListN.{length, get_or, take, drop, length-append, take-append-drop, drop_of_length-le}
use lib.Seq.{drop-cons, drop-drop, get_or-append-add, drop-append-add, take_at}
use borrow.Author.Tests.{ltb-false}
use Rattle.area_items.specs.Items.{Item, Reading, refused, items, before, judged, kind_at, length_at, end_at, item_at, fits, verdict_at, read_from, rest_of, area}
use Rattle.area_items.specs.Rows.{item_bytes, in_a_row, placed, Fits, AllFit, none, more}
use Rattle.area_items.proofs.Laws.{good, value-length, right_length, rest_end, rest_good}

-- every element is a byte
abbrev pub Bytes : List ℕ → Type 0
Bytes bytes = (i : ℕ) → get_or bytes i 0 < 256

-- ---- what is read, in a row again

-- the item at a place, then what stands behind it
module _ (bytes : List ℕ) (at : ℕ) (small : Bytes bytes) (header : at + 4 ≤ length bytes) (inside : end_at bytes at ≤ length bytes) where
  one : (k m : ℕ) → k + 1 ≡ m → k < length bytes → drop k bytes ≡ get_or bytes k 0 ∷ drop m bytes
  one k m e h = drop-cons bytes k 0 h ∙ ap (λ (n : ℕ). get_or bytes k 0 ∷ drop n bytes) (sym (add-one k) ∙ e)

  four : drop at bytes ≡ get_or bytes at 0 ∷ get_or bytes (at + 1) 0 ∷ get_or bytes (at + 2) 0 ∷ get_or bytes (at + 2 + 1) 0 ∷ drop (at + 4) bytes
  four =
      one at (at + 1) refl (omega arith)
      ∙ ap (λ (l : List ℕ). get_or bytes at 0 ∷ l)
      (one (at + 1) (at + 2) (omega arith) (omega arith)
      ∙ ap (λ (l : List ℕ). get_or bytes (at + 1) 0 ∷ l)
      (one (at + 2) (at + 2 + 1) refl (omega arith)
      ∙ ap (λ (l : List ℕ). get_or bytes (at + 2) 0 ∷ l) (one (at + 2 + 1) (at + 4) (omega arith) (omega arith))))

  pub item_first : item_bytes (item_at bytes at) ++ drop (end_at bytes at) bytes ≡ drop at bytes
  item_first =
      let n = length_at bytes at in
      let v = take n (drop (at + 4) bytes) in
      let l : length v ≡ n = value-length bytes at inside in
      let upper : length v / 256 ≡ get_or bytes (at + 2) 0 = omega (arith, small (at + 2 + 1)) in
      let lower : length v % 256 ≡ get_or bytes (at + 2 + 1) 0 = omega (arith, small (at + 2 + 1)) in
      let rest : v ++ drop (end_at bytes at) bytes ≡ drop (at + 4) bytes =
      ap (λ (m : List ℕ). v ++ m) (sym (drop-drop n (at + 4) bytes)) ∙ take-append-drop n (drop (at + 4) bytes) in
      ap (λ (x : ℕ). get_or bytes at 0 ∷ get_or bytes (at + 1) 0 ∷ x ∷ (length v % 256) ∷ (v ++ drop (end_at bytes at) bytes)) upper
      ∙ ap (λ (x : ℕ). get_or bytes at 0 ∷ get_or bytes (at + 1) 0 ∷ get_or bytes (at + 2) 0 ∷ x ∷ (v ++ drop (end_at bytes at) bytes)) lower
      ∙ ap (λ (m : List ℕ). get_or bytes at 0 ∷ get_or bytes (at + 1) 0 ∷ get_or bytes (at + 2) 0 ∷ get_or bytes (at + 2 + 1) 0 ∷ m) rest
      ∙ sym four

row_from : (n : ℕ) (bytes : List ℕ) (at : ℕ) (is : List Item) → Bytes bytes → length bytes - at ≤ n → read_from n bytes at ≡ items is → in_a_row is ≡ drop at bytes
unfolding read_from
row_from zero bytes at [] small h e = sym (drop_of_length-le bytes {i = at} (omega arith))
row_from zero bytes at (i ∷ is) small h e = let z : ◌≡◌ {A = ℕ} 0 1 = cc in absurd (omega arith)
row_from (suc n) bytes at is small h e = by (ltb at (length bytes)) (verdict_at bytes at) (read_from n bytes (end_at bytes at)) refl refl refl is (λ js l s. row_from n bytes (end_at bytes at) js small l s) e
  where
    by : (a : Bool) (v : Result (Unit {0}) Refusal) (r : Reading) → ltb at (length bytes) ≡ a → verdict_at bytes at ≡ v → read_from n bytes (end_at bytes at) ≡ r
        → (is : List Item)
        → ((js : List Item) → length bytes - end_at bytes at ≤ n → read_from n bytes (end_at bytes at) ≡ items js → in_a_row js ≡ drop (end_at bytes at) bytes)
        → cond a (judged v (item_at bytes at) r) (items []) ≡ items is → in_a_row is ≡ drop at bytes
    by false v r p q s [] again e = sym (drop_of_length-le bytes {i = at} (ltb-false at (length bytes) p))
    by false v r p q s (i ∷ is) again e = let z : ◌≡◌ {A = ℕ} 0 1 = cc in absurd (omega arith)
    by true (Err v) r p q s is again e = let z : ◌≡◌ {A = ℕ} 0 1 = cc in absurd (omega arith)
    by true (Ok _) (refused m) p q s is again e = let z : ◌≡◌ {A = ℕ} 0 1 = cc in absurd (omega arith)
    by true (Ok _) (items js) p q s [] again e = let z : ◌≡◌ {A = ℕ} 0 1 = cc in absurd (omega arith)
    by true (Ok _) (items js) p q s (i ∷ is) again e =
        let g = good bytes at q in
        let first : i ≡ item_at bytes at = cc in
        let later : is ≡ js = cc in
        ap (λ (j : Item). item_bytes j ++ in_a_row is) first
        ∙ ap (λ (l : List Item). item_bytes (item_at bytes at) ++ in_a_row l) later
        ∙ ap (λ (l : List ℕ). item_bytes (item_at bytes at) ++ l) (again js (omega arith) s)
        ∙ item_first bytes at small g.0 g.1

-- the bytes of an area are its items in a row
pub read-in_a_row : (bytes : List ℕ) (is : List Item) → Bytes bytes → area bytes ≡ items is → in_a_row is ≡ bytes
unfolding area rest_of
read-in_a_row bytes is small e = row_from (length bytes - 0) bytes 0 is small (omega arith) e

-- ---- a row, read

-- the first item of a row that stands behind other bytes
module _ (pre : List ℕ) (i : Item) (rest : List ℕ) (f : Fits i) where
  abbrev whole : List ℕ
  whole = pre ++ (item_bytes i ++ rest)

  at_place : (j : ℕ) → get_or whole (length pre + j) 0 ≡ get_or (item_bytes i ++ rest) j 0
  at_place j = get_or-append-add pre (item_bytes i ++ rest) j 0

  place_zero : get_or whole (length pre) 0 ≡ i.flags
  place_zero = ap (λ (n : ℕ). get_or whole n 0) nothing ∙ at_place 0
    where
      nothing : length pre ≡ length pre + 0
      nothing = omega arith

  place_kind : kind_at whole (length pre) ≡ i.kind
  place_kind = at_place 1

  place-length : length_at whole (length pre) ≡ length i.value
  place-length =
      ap (λ (x : ℕ). x * 256 + get_or whole (length pre + 2 + 1) 0) (at_place 2)
      ∙ ap (λ (x : ℕ). length i.value / 256 * 256 + x) (ap (λ (n : ℕ). get_or whole n 0) three ∙ at_place 3)
      ∙ together
    where
      three : length pre + 2 + 1 ≡ length pre + 3
      three = omega arith

      together : length i.value / 256 * 256 + length i.value % 256 ≡ length i.value
      together = omega arith

  whole_length : length whole ≡ length pre + 4 + length i.value + length rest
  whole_length = omega (arith, length-append pre (item_bytes i ++ rest), length-append i.value rest)

  place-value : (item_at whole (length pre)).value ≡ i.value
  place-value =
      ap (λ (n : ℕ). take n (drop (length pre + 4) whole)) place-length
      ∙ ap (take (length i.value)) (drop-append-add pre (item_bytes i ++ rest) 4)
      ∙ take_at i.value rest (length i.value) refl

  place_end : end_at whole (length pre) ≡ length pre + 4 + length i.value
  place_end = ap (λ (n : ℕ). length pre + 4 + n) place-length

  place-good : Ok tt ≡ verdict_at whole (length pre)
  place-good =
      right_length whole (length pre) (omega (arith, whole_length)) (omega (arith, whole_length, place_end))
      (ap (λ (k : ℕ). fits k (length_at whole (length pre))) place_kind ∙ ap (fits i.kind) place-length ∙ f.right)

  place_item : item_at whole (length pre) ≡ record { start = length pre; flags = i.flags; kind = i.kind; value = i.value }
  place_item = λ j. record { start = length pre; flags = place_zero j; kind = place_kind j; value = place-value j }

  pub row_step : rest_of whole (length pre) ≡ before (record { start = length pre; flags = i.flags; kind = i.kind; value = i.value }) (rest_of whole (length pre + 4 + length i.value))
  row_step =
      rest_good whole (length pre) (omega (arith, whole_length)) place-good
      ∙ ap (λ (j : Item). before j (rest_of whole (end_at whole (length pre)))) place_item
      ∙ ap (λ (n : ℕ). before (record { start = length pre; flags = i.flags; kind = i.kind; value = i.value }) (rest_of whole n)) place_end

row_back : (pre : List ℕ) (is : List Item) → AllFit is → rest_of (pre ++ in_a_row is) (length pre) ≡ items (placed (length pre) is)
row_back pre [] none = rest_end (pre ++ []) (length pre) (omega (arith, length-append pre []))
row_back pre (i ∷ is) (more f fs) =
    let own : Item = record { start = length pre; flags = i.flags; kind = i.kind; value = i.value } in
    let end : length (pre ++ item_bytes i) ≡ length pre + 4 + length i.value = omega (arith, length-append pre (item_bytes i)) in
    row_step pre i (in_a_row is) f
    ∙ ap (λ (l : List ℕ). before own (rest_of l (length pre + 4 + length i.value))) (sym (append_assoc pre (item_bytes i) (in_a_row is)))
    ∙ ap (λ (n : ℕ). before own (rest_of ((pre ++ item_bytes i) ++ in_a_row is) n)) (sym end)
    ∙ ap (before own) (row_back (pre ++ item_bytes i) is fs)
    ∙ ap (λ (n : ℕ). items (own ∷ placed n is)) end

-- what is in a row reads back equal, each item where it then starts
pub row_reads_back : (is : List Item) → AllFit is → area (in_a_row is) ≡ items (placed 0 is)
unfolding area
row_reads_back is f = row_back [] is f
