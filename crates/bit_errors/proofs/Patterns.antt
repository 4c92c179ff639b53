-- A pattern repeated: in parts that begin where it begins, and written down several times over. Assumes nothing.
use mathlib.Core.Path.{◌≡◌, refl, sym, ap, ap₂, ◌∙◌, subst}
use mathlib.Core.Bool.{Bool, true, false}
use mathlib.Core.Logic.{◌⊎◌, inl, inr}
use mathlib.Core.List.{List, [], ◌∷◌}
use Prim.Native.Nat.{ℕ, zero, suc, ◌+◌, ◌-◌, ◌*◌, ◌/◌, ◌%◌, ◌≤◌, ◌<◌, min}
use native.Mathlib.Nat.{mod-lt, mod-eq_of_lt, mul-add-mod_self_right, div-add-mod', add-zero, add_assoc, add-suc, suc-add, zero-add, add-mod_right, mod-mod, mul-pos, add-mul, mul-le-mul_right, le_trans, le-div_iff_mul-le, div-mul-le_self}
use native.Mathlib.Omega.{arith}
use lib.Arith.{mod-mul}
use lib.Bits.{bit_xor}
use lib.ListN.{length, get_or, set, take, drop, length-take}
use lib.Seq.{drop-cons, take_all, get_or-take, length-take-le, get_or-set_same, get_or-set_other}
use lib.Dec.{leb}
use borrow.Author.Tests.{leb-true, leb-false}
use borrow.Author.Count.{below_more}
use Rattle.bit_errors.specs.Errors.{repeated, wrong_from}
use Rattle.bit_errors.specs.Parts.{differing, Repeats}

pub wrong-length : (pattern : List ℕ) (i : ℕ) (s : List ℕ) → length (wrong_from pattern i s) ≡ length s
unfolding wrong_from
wrong-length pattern i [] = refl
wrong-length pattern i (b ∷ s) = ap suc (wrong-length pattern (suc i) s)

pub wrong-drop : (pattern : List ℕ) (i n : ℕ) (s : List ℕ) → drop n (wrong_from pattern i s) ≡ wrong_from pattern (i + n) (drop n s)
unfolding wrong_from
wrong-drop pattern i zero s = ap (λ (j : ℕ). wrong_from pattern j s) (sym (add-zero i))
wrong-drop pattern i (suc n) [] = refl
wrong-drop pattern i (suc n) (b ∷ s) =
    wrong-drop pattern (suc i) n s ∙ ap (λ (j : ℕ). wrong_from pattern j (drop n s)) (suc-add i n ∙ sym (add-suc i n))

pub wrong-take : (pattern : List ℕ) (i n : ℕ) (s : List ℕ) → take n (wrong_from pattern i s) ≡ wrong_from pattern i (take n s)
unfolding wrong_from
wrong-take pattern i zero s = refl
wrong-take pattern i (suc n) [] = refl
wrong-take pattern i (suc n) (b ∷ s) = ap (λ (l : List ℕ). bit_xor b (repeated pattern i) ∷ l) (wrong-take pattern (suc i) n s)

-- the place in the pattern, j bytes on
pub further : (at l j : ℕ) → (at + j) % l ≡ (at % l + j) % l
further at l j =
    ap (λ (m : ℕ). (m + j) % l) (sym (div-add-mod' at l))
    ∙ ap (λ (m : ℕ). m % l) (add_assoc (at / l * l) (at % l) j)
    ∙ mul-add-mod_self_right (at / l) l (at % l + j)

-- no more bytes than a room with the pattern repeated has behind a place
pub wrong-part : (room pattern : List ℕ) (at from j : ℕ) (s : List ℕ) → Repeats room pattern (length room) → from ≡ at % length pattern
    → from + j + length s ≤ length room → wrong_from pattern (at + j) s ≡ differing s (drop (from + j) room)
unfolding wrong_from differing
wrong-part room pattern at from j [] r e h = refl
wrong-part room pattern at from j (b ∷ s) r e h =
    let l : from + j < length room = omega arith in
    ap₂ (λ (x : ℕ) (xs : List ℕ). bit_xor b x ∷ xs)
    (ap (λ (m : ℕ). get_or pattern m 0) (further at (length pattern) j ∙ ap (λ (m : ℕ). (m + j) % length pattern) (sym e)) ∙ sym (r (from + j) l))
    (ap (λ (m : ℕ). wrong_from pattern m s) (sym (add-suc at j))
    ∙ wrong-part room pattern at from (suc j) s r e (omega arith)
    ∙ ap (λ (m : ℕ). differing s (drop m room)) (add-suc from j))
    ∙ ap (differing (b ∷ s)) (sym (drop-cons room (from + j) 0 l))

pub part_of : (room pattern padding : List ℕ) (at from m : ℕ) → Repeats room pattern (length room) → from ≡ at % length pattern → from + m ≤ length room
    → take m (drop at (wrong_from pattern 0 padding)) ≡ differing (take m (drop at padding)) (drop from room)
part_of room pattern padding at from m r e h =
    ap (take m) (wrong-drop pattern 0 at padding ∙ ap (λ (i : ℕ). wrong_from pattern i (drop at padding)) (zero-add at ∙ sym (add-zero at)))
    ∙ wrong-take pattern (at + 0) m (drop at padding)
    ∙ wrong-part room pattern at from 0 (take m (drop at padding)) r e (omega (arith, length-take m (drop at padding)))
    ∙ ap (λ (n : ℕ). differing (take m (drop at padding)) (drop n room)) (add-zero from)

-- the end of such a part is the end of the padding, or its place in the pattern is known
pub part_end : (l n at from far m : ℕ) → from ≡ at % l → m ≡ min (n - at) far → at ≤ n → l ≤ from + far → from + far < 2 * l
    → (at + m ≡ n) ⊎ (from + far - l ≡ (at + m) % l)
part_end l n at from far m e q h low high = go (leb (n - at) far) refl
  where
    go : (b : Bool) → leb (n - at) far ≡ b → (at + m ≡ n) ⊎ (from + far - l ≡ (at + m) % l)
    go true b = inl (omega (arith, leb-true (n - at) far b))
    go false b =
        let x : m ≡ far = omega (arith, leb-false (n - at) far b) in
        let y : from + far ≡ from + far - l + l = omega arith in
        inr (sym (ap (λ (k : ℕ). (at + k) % l) x
        ∙ further at l far
        ∙ ap (λ (k : ℕ). (k + far) % l) (sym e)
        ∙ ap (λ (k : ℕ). k % l) y
        ∙ add-mod_right (from + far - l) l
        ∙ mod-eq_of_lt (omega arith)))

-- two patterns that are the same when repeated
pub wrong-same : (p q : List ℕ) → ((i : ℕ) → repeated p i ≡ repeated q i) → (i : ℕ) (s : List ℕ) → wrong_from p i s ≡ wrong_from q i s
unfolding wrong_from
wrong-same p q e i [] = refl
wrong-same p q e i (b ∷ s) = ap₂ (λ (x : ℕ) (xs : List ℕ). bit_xor b x ∷ xs) (e i) (wrong-same p q e (suc i) s)

-- a pattern written down k times over is the same when repeated
pub written_over : (room pattern : List ℕ) (k : ℕ) → 0 < k → 0 < length pattern → k * length pattern ≤ length room → Repeats room pattern (k * length pattern)
    → (i : ℕ) → repeated (take (k * length pattern) room) i ≡ repeated pattern i
written_over room pattern k hk hl fits r i =
    ap (λ (n : ℕ). get_or (take size room) (i % n) 0) (length-take-le size room fits)
    ∙ get_or-take size room (i % size) 0 within
    ∙ r (i % size) within
    ∙ ap (λ (n : ℕ). get_or pattern n 0) (ap (λ (n : ℕ). n % l) (mod-mul i hk hl) ∙ mul-add-mod_self_right (i / l % k) l (i % l) ∙ mod-mod i l)
  where
    l : ℕ
    l = length pattern

    size : ℕ
    size = k * length pattern

    within : i % size < size
    within = mod-lt i (mul-pos hk hl)

-- ---- writing it down

pub repeats_more : (room pattern : List ℕ) (at from : ℕ) → at < length room → from ≡ at % length pattern → Repeats room pattern at
    → Repeats (set room at (get_or pattern from 0)) pattern (at + 1)
repeats_more room pattern at from h e r =
    below_more (λ (i : ℕ). get_or (set room at (get_or pattern from 0)) i 0 ≡ repeated pattern i) at
    (λ i l. get_or-set_other room at i (get_or pattern from 0) 0 (λ (q : i ≡ at). absurd (omega arith)) ∙ r i l)
    (get_or-set_same room at (get_or pattern from 0) 0 h ∙ ap (λ (m : ℕ). get_or pattern m 0) e)

-- how often it is written down, and how much room that takes
pub times-over : (l n k : ℕ) → 0 < l → l ≤ 760 → k ≡ min (760 / l) (1 + (8 + n) / l) → (0 < k) × (8 ≤ k * l) × (k * l ≤ 760)
times-over l n k p h e = (omega (arith, e, some), go (leb (760 / l) (1 + (8 + n) / l)) refl, le_trans (mul-le-mul_right l (omega (arith, e))) (div-mul-le_self 760 l))
  where
    some : 1 ≤ 760 / l
    some = (le-div_iff_mul-le {k = l} p).1 (omega arith)

    go : (b : Bool) → leb (760 / l) (1 + (8 + n) / l) ≡ b → 8 ≤ k * l
    go true b =
        let x : k ≡ 760 / l = omega (arith, e, leb-true (760 / l) (1 + (8 + n) / l) b) in
        subst (λ (m : ℕ). 8 ≤ m * l) (sym x) (omega (arith, div-add-mod' 760 l, mod-lt 760 p, mul-le-mul_right l some))
    go false b =
        let x : k ≡ 1 + (8 + n) / l = omega (arith, e, leb-false (760 / l) (1 + (8 + n) / l) b) in
        subst (λ (m : ℕ). 8 ≤ m * l) (sym x) (omega (arith, add-mul 1 ((8 + n) / l) l, div-add-mod' (8 + n) l, mod-lt (8 + n) p))

-- a pattern is a room that has it once
pub as_it_stands : (pattern : List ℕ) → Repeats pattern (take (length pattern) pattern) (length pattern)
as_it_stands pattern i l =
    ap (λ (m : ℕ). get_or pattern m 0) (sym (mod-eq_of_lt l)) ∙ ap (λ (q : List ℕ). repeated q i) (sym (take_all (length pattern) pattern (omega arith)))

-- a room that has it k times over, and what comes next
module _ (room pattern : List ℕ) (k : ℕ) (hk : 0 < k) (hl : 0 < length pattern) (fits : k * length pattern + 7 ≤ length room) (r : Repeats room pattern (k * length pattern + 7)) where
  abbrev whole : List ℕ
  whole = take (k * length pattern + 7) room

  pub whole_length : length whole ≡ k * length pattern + 7
  whole_length = length-take-le (k * length pattern + 7) room fits

  written : Repeats whole pattern (k * length pattern + 7)
  written i h = get_or-take (k * length pattern + 7) room i 0 h ∙ r i h

  same : (i : ℕ) → repeated (take (k * length pattern) whole) i ≡ repeated pattern i
  same = written_over whole pattern k hk hl (omega (arith, whole_length)) (λ i h. written i (omega arith))

  pub repeats_on : Repeats whole (take (k * length pattern) whole) (length whole)
  repeats_on i h = written i (omega (arith, whole_length)) ∙ sym (same i)

  pub same-repeated : (padding : List ℕ) → wrong_from (take (k * length pattern) whole) 0 padding ≡ wrong_from pattern 0 padding
  same-repeated = wrong-same (take (k * length pattern) whole) pattern same 0
