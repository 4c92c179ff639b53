-- What a delay leaves in the eight words of the delays. Assumes nothing.
use Rattle.std.specs.Prelude.{Option, Some}
use mathlib.Core.Path.{◌≡◌, refl, sym, ap, ◌∙◌}
use mathlib.Core.Bool.{Bool, true, false, ◌&&◌, ◌||◌, cond, and-eq-true_iff}
use mathlib.Core.List.{List, [], ◌∷◌}
use Prim.Native.Nat.{ℕ, zero, suc, ◌+◌, ◌≤◌, ◌<◌}
use native.Mathlib.Nat.{zero-lt-suc}
use native.Mathlib.Omega.{arith}
use lib.Dec.{eqb, ltb, leb}
use lib.IntN.{ℤ, pos, negsuc, ◌+ℤ◌}
use lib.Signed.{lt_z}
use lib.ListN.{get_or, set}
use lib.Seq.{sets, get_or-set_other}
use borrow.Author.Tests.{eqb-true, leb-true, le-ltb, lt-ltb, le-leb, lt-leb, eq-eqb, ne_eqb}
use Rattle.floats.specs.Whole.{magnitude, signed}
use Rattle.delays.specs.declared.Nanoseconds.{Nanoseconds}
use Rattle.delays.specs.declared.Sum.{Sum}
use Rattle.delays.specs.Delays.{lesser, greater, recorded_of}
use Rattle.delays.specs.Sums.{nanoseconds_of, value_of, sum_from, sum_of}
use Rattle.delays.proofs.Signs.{same_sign}
use Rattle.delays.proofs.Steps.{both_under, second-under, still-least, still-most}
use Rattle.round_trips.proofs.Steps.{none-under}
use Rattle.host_numbers.specs.Numbers.{flag_word, is_set}
use Rattle.host_ledger.specs.Parts.{extreme_of, extreme_kind, extreme_magnitude, delays_of, delays_at, delays_words}
use Rattle.host_ledger.proofs.Back.{extreme_again}
use Rattle.host_ledger.proofs.Kept.{kept}
use Rattle.host_delay.specs.Usual.{within, usual}

-- ---- the tests

-- `lies_within`
module _ (kind other size far_kind far near_kind near : ℕ) where
  abbrev alike : Bool
  alike = eqb near_kind kind && leb near size

  abbrev tested : Bool
  tested = within kind other size far_kind far near_kind near

  pub other_side : (far_kind ≡ kind → ⊥) → false ≡ tested
  other_side h = sym (λ i. ne_eqb far_kind kind h i && leb size far && (eqb near_kind other || alike))

  pub beyond_far : far_kind ≡ kind → far < size → false ≡ tested
  beyond_far e h = sym (λ i. eq-eqb far_kind kind e i && lt-leb size far h i && (eqb near_kind other || alike))

  pub opposite_near : far_kind ≡ kind → size ≤ far → near_kind ≡ other → true ≡ tested
  opposite_near e h o = sym (λ i. eq-eqb far_kind kind e i && le-leb size far h i && (eq-eqb near_kind other o i || alike))

  pub alike_near : far_kind ≡ kind → size ≤ far → (near_kind ≡ other → ⊥) → alike ≡ tested
  alike_near e h o = sym (λ i. eq-eqb far_kind kind e i && le-leb size far h i && (ne_eqb near_kind other o i || alike))

-- `is_usual`
module _ (w : List ℕ) (ns : Nanoseconds) where
  abbrev below : Bool
  below = within 2 1 ns.magnitude (get_or w 54 0) (get_or w 55 0) (get_or w 56 0) (get_or w 57 0)

  abbrev above : Bool
  above = within 1 2 ns.magnitude (get_or w 56 0) (get_or w 57 0) (get_or w 54 0) (get_or w 55 0)

  abbrev by_sign : Bool → Bool
  by_sign b = cond b (eqb (get_or w 51 0) 1 && below) (eqb (get_or w 51 0) 0 && above)

  pub sum_above : ns.negative ≡ true → (get_or w 51 0 ≡ 1 → ⊥) → false ≡ usual w ns
  sum_above e h = sym (ap by_sign e ∙ (λ i. ne_eqb (get_or w 51 0) 1 h i && below))

  pub sum_below : ns.negative ≡ false → (get_or w 51 0 ≡ 0 → ⊥) → false ≡ usual w ns
  sum_below e h = sym (ap by_sign e ∙ (λ i. ne_eqb (get_or w 51 0) 0 h i && above))

  pub both_below : (r : Bool) → ns.negative ≡ true → get_or w 51 0 ≡ 1 → r ≡ below → r ≡ usual w ns
  both_below r e h t = t ∙ sym (ap by_sign e ∙ (λ i. eq-eqb (get_or w 51 0) 1 h i && below))

  pub both-above : (r : Bool) → ns.negative ≡ false → get_or w 51 0 ≡ 0 → r ≡ above → r ≡ usual w ns
  both-above r e h t = t ∙ sym (ap by_sign e ∙ (λ i. eq-eqb (get_or w 51 0) 0 h i && above))

-- ---- an extreme that stays

abbrev span : Bool → ℕ → Nanoseconds
span s m = record { negative = s; magnitude = m }

-- these are the words of an extreme
abbrev Says : ℕ → ℕ → Option Nanoseconds → Type 0
Says k m x = (k ≡ extreme_kind x) × (m ≡ extreme_magnitude x)

module _ (ns : Nanoseconds) (s : Bool) (k m : ℕ) (e : k ≡ 1 + flag_word s) where
  at : extreme_of k m ≡ Some (span s m)
  at = ap (λ (x : ℕ). extreme_of x m) e ∙ extreme_again (Some (span s m))

  least_stays : lt_z (value_of ns) (signed s m) ≡ false → Says k m (lesser (extreme_of k m) ns)
  least_stays t =
      let same = still-least (extreme_of k m) ns (span s m) at t in
      (e ∙ ap extreme_kind same, ap extreme_magnitude same)

  most_stays : lt_z (signed s m) (value_of ns) ≡ false → Says k m (greater (extreme_of k m) ns)
  most_stays t =
      let same = still-most (extreme_of k m) ns (span s m) at t in
      (e ∙ ap extreme_kind same, ap extreme_magnitude same)

-- of a delay that is not negative
module _ (n k m : ℕ) where
  far-most : k ≡ 1 → n ≤ m → Says k m (greater (extreme_of k m) (span false n))
  far-most e h = most_stays (span false n) false k m e (le-ltb m n h)

  near-least : (eqb k 2 || eqb k 1 && leb m n) ≡ true → Says k m (lesser (extreme_of k m) (span false n))
  near-least t = go (eqb k 2) refl
    where
      go : (b : Bool) → eqb k 2 ≡ b → Says k m (lesser (extreme_of k m) (span false n))
      go true e = least_stays (span false n) true k m (eqb-true k 2 e) (sym (none-under true m n refl))
      go false e =
          let both = (and-eq-true_iff (eqb k 1) (leb m n)).0 (sym (ap (λ (b : Bool). b || eqb k 1 && leb m n) e) ∙ t) in
          least_stays (span false n) false k m (eqb-true k 1 both.0) (le-ltb n m (leb-true m n both.1))

-- of a negative one
module _ (j k m : ℕ) where
  some : true && ltb 0 (suc j) ≡ true
  some = lt-ltb 0 (suc j) (zero-lt-suc j)

  far-least : k ≡ 2 → suc j ≤ m → Says k m (lesser (extreme_of k m) (span true (suc j)))
  far-least e h =
      least_stays (span true (suc j)) true k m e
      (sym (both_under true true (suc j) m some (lt-ltb 0 m (more j m h))) ∙ le-ltb m (suc j) h)
    where
      more : (j m : ℕ) → suc j ≤ m → 0 < m
      more j m h = omega arith

  not_over : (m : ℕ) → m ≤ suc j → lt_z (signed true m) (signed true (suc j)) ≡ false
  not_over zero h = sym (second-under true true 0 (suc j) refl some)
  not_over (suc m) h = sym (both_under true true (suc m) (suc j) (lt-ltb 0 (suc m) (zero-lt-suc m)) some) ∙ le-ltb (suc j) (suc m) h

  near-most : (eqb k 1 || eqb k 2 && leb m (suc j)) ≡ true → Says k m (greater (extreme_of k m) (span true (suc j)))
  near-most t = go (eqb k 1) refl
    where
      go : (b : Bool) → eqb k 1 ≡ b → Says k m (greater (extreme_of k m) (span true (suc j)))
      go true e = most_stays (span true (suc j)) false k m (eqb-true k 1 e) (sym (second-under false true m (suc j) refl some))
      go false e =
          let both = (and-eq-true_iff (eqb k 2) (leb m (suc j))).0 (sym (ap (λ (b : Bool). b || eqb k 2 && leb m (suc j)) e) ∙ t) in
          most_stays (span true (suc j)) true k m (eqb-true k 2 both.0) (not_over m (leb-true m (suc j) both.1))

-- ---- the sum

module _ (x high low : ℕ) where
  abbrev sum : ℕ
  sum = magnitude high low

  farther_up : (n : ℕ) → x ≡ 0 → sum_from false (sum + n) ≡ sum_of (signed (is_set x) sum +ℤ pos n)
  farther_up n e = ap (λ (y : ℕ). sum_of (signed (is_set y) sum +ℤ pos n)) (sym e)

  farther_down : (j : ℕ) → x ≡ 1 → sum_from true (sum + suc j) ≡ sum_of (signed (is_set x) sum +ℤ signed true (suc j))
  farther_down j e = same_sign true true sum (suc j) refl ∙ ap (λ (y : ℕ). sum_of (signed (is_set y) sum +ℤ signed true (suc j))) (sym e)

  sign_up : (n : ℕ) → x ≡ 0 → x ≡ flag_word (sum_of (signed (is_set x) sum +ℤ pos n)).negative
  sign_up n e = e ∙ ap (λ (s : Sum). flag_word s.negative) (farther_up n e)

  sign_down : (j : ℕ) → x ≡ 1 → x ≡ flag_word (sum_of (signed (is_set x) sum +ℤ signed true (suc j))).negative
  sign_down j e =
      e ∙ sym (ap flag_word (lt-ltb 0 (sum + suc j) (some_sum sum j))) ∙ ap (λ (s : Sum). flag_word s.negative) (farther_down j e)
    where
      some_sum : (a j : ℕ) → 0 < a + suc j
      some_sum a j = omega arith

-- ---- the stores

module _ (w : List ℕ) (c h l : ℕ) where
  abbrev counted : List ℕ
  counted = set w 50 c

  abbrev summed : List ℕ
  summed = set (set counted 52 h) 53 l

  other : (i : ℕ) → 53 < i → get_or summed i 0 ≡ get_or w i 0
  other i b =
      get_or-set_other (set counted 52 h) 53 i l 0 (λ e. omega (arith, b, e))
      ∙ get_or-set_other counted 52 i h 0 (λ e. omega (arith, b, e))
      ∙ get_or-set_other w 50 i c 0 (λ e. omega (arith, b, e))

  stays : (i : ℕ) → 53 < i → set summed i (get_or w i 0) ≡ summed
  stays i b = kept summed w i (other i b)

  stored : summed ≡ sets w 50 (c ∷ get_or w 51 0 ∷ h ∷ l ∷ get_or w 54 0 ∷ get_or w 55 0 ∷ get_or w 56 0 ∷ get_or w 57 0 ∷ [])
  stored = sym (
      ap (λ (v : List ℕ). set (set (set (set (set (set v 52 h) 53 l) 54 (get_or w 54 0)) 55 (get_or w 55 0)) 56 (get_or w 56 0)) 57 (get_or w 57 0))
      (kept counted w 51 (get_or-set_other w 50 51 c 0 (λ e. omega (arith, e))))
      ∙ ap (λ (v : List ℕ). set (set (set v 55 (get_or w 55 0)) 56 (get_or w 56 0)) 57 (get_or w 57 0)) (stays 54 (omega arith))
      ∙ ap (λ (v : List ℕ). set (set v 56 (get_or w 56 0)) 57 (get_or w 57 0)) (stays 55 (omega arith))
      ∙ ap (λ (v : List ℕ). set v 57 (get_or w 57 0)) (stays 56 (omega arith))
      ∙ stays 57 (omega arith))

-- ---- the words

module _ (w : List ℕ) where
  abbrev before : ℕ
  before = magnitude (get_or w 52 0) (get_or w 53 0)

  -- what `add` stores
  abbrev pub added : ℕ → List ℕ
  added more = set (set (set w 50 (get_or w 50 0 + 1)) 52 (sum_of (pos (before + more))).high) 53 (sum_of (pos (before + more))).low

  module _ (ns : Nanoseconds) where
    abbrev total : Sum
    total = sum_of (signed (is_set (get_or w 51 0)) before +ℤ value_of ns)

    together :
        get_or w 51 0 ≡ flag_word total.negative → (sum_of (pos (before + ns.magnitude))).high ≡ total.high → (sum_of (pos (before + ns.magnitude))).low ≡ total.low
        → Says (get_or w 54 0) (get_or w 55 0) (lesser (extreme_of (get_or w 54 0) (get_or w 55 0)) ns)
        → Says (get_or w 56 0) (get_or w 57 0) (greater (extreme_of (get_or w 56 0) (get_or w 57 0)) ns)
        → added ns.magnitude ≡ sets w 50 (delays_words (recorded_of (delays_at 50 w) ns))
    unfolding delays_of delays_words
    together sign high low least most =
        stored w (get_or w 50 0 + 1) (sum_of (pos (before + ns.magnitude))).high (sum_of (pos (before + ns.magnitude))).low
        ∙ (λ i. sets w 50 ((get_or w 50 0 + 1) ∷ sign i ∷ high i ∷ low i ∷ least.0 i ∷ least.1 i ∷ most.0 i ∷ most.1 i ∷ []))

  up : (n : ℕ) → usual w (span false n) ≡ true → added n ≡ sets w 50 (delays_words (recorded_of (delays_at 50 w) (span false n)))
  up n t =
      let far = eqb (get_or w 56 0) 1 in
      let no-nearer = leb n (get_or w 57 0) in
      let near = eqb (get_or w 54 0) 2 || eqb (get_or w 54 0) 1 && leb (get_or w 55 0) n in
      let all = (and-eq-true_iff (eqb (get_or w 51 0) 0) (far && no-nearer && near)).0 t in
      let tests = (and-eq-true_iff (far && no-nearer) near).0 all.1 in
      let first = (and-eq-true_iff far no-nearer).0 tests.0 in
      let e = eqb-true (get_or w 51 0) 0 all.0 in
      let s = farther_up (get_or w 51 0) (get_or w 52 0) (get_or w 53 0) n e in
      together (span false n) (sign_up (get_or w 51 0) (get_or w 52 0) (get_or w 53 0) n e) (ap (λ (x : Sum). x.high) s) (ap (λ (x : Sum). x.low) s)
      (near-least n (get_or w 54 0) (get_or w 55 0) tests.1)
      (far-most n (get_or w 56 0) (get_or w 57 0) (eqb-true (get_or w 56 0) 1 first.0) (leb-true n (get_or w 57 0) first.1))

  down : (j : ℕ) → usual w (span true (suc j)) ≡ true → added (suc j) ≡ sets w 50 (delays_words (recorded_of (delays_at 50 w) (span true (suc j))))
  down j t =
      let far = eqb (get_or w 54 0) 2 in
      let no-nearer = leb (suc j) (get_or w 55 0) in
      let near = eqb (get_or w 56 0) 1 || eqb (get_or w 56 0) 2 && leb (get_or w 57 0) (suc j) in
      let all = (and-eq-true_iff (eqb (get_or w 51 0) 1) (far && no-nearer && near)).0 t in
      let tests = (and-eq-true_iff (far && no-nearer) near).0 all.1 in
      let first = (and-eq-true_iff far no-nearer).0 tests.0 in
      let e = eqb-true (get_or w 51 0) 1 all.0 in
      let s = farther_down (get_or w 51 0) (get_or w 52 0) (get_or w 53 0) j e in
      together (span true (suc j)) (sign_down (get_or w 51 0) (get_or w 52 0) (get_or w 53 0) j e) (ap (λ (x : Sum). x.high) s) (ap (λ (x : Sum). x.low) s)
      (far-least j (get_or w 54 0) (get_or w 55 0) (eqb-true (get_or w 54 0) 2 first.0) (leb-true (suc j) (get_or w 55 0) first.1))
      (near-most j (get_or w 56 0) (get_or w 57 0) tests.1)

  pub usual_as : (z : ℤ) (ns : Nanoseconds) → ns ≡ nanoseconds_of z → usual w ns ≡ true → added ns.magnitude ≡ sets w 50 (delays_words (recorded_of (delays_at 50 w) (nanoseconds_of z)))
  usual_as z ns e t = ap (λ (x : Nanoseconds). added x.magnitude) e ∙ go z (sym (ap (usual w) e) ∙ t)
    where
      go : (z : ℤ) → usual w (nanoseconds_of z) ≡ true → added (nanoseconds_of z).magnitude ≡ sets w 50 (delays_words (recorded_of (delays_at 50 w) (nanoseconds_of z)))
      go (pos n) t = up n t
      go (negsuc j) t = down j t
