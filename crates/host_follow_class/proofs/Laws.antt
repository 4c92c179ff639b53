-- What a matched follow-up leaves in the three words of its slot. Assumes nothing.
use Rattle.correlation.specs.Class.{Class}
use Rattle.std.specs.Prelude.{Option, Some, None, Ok}
use mathlib.Core.Path.{◌≡◌, refl, sym, ap, ◌∙◌}
use mathlib.Core.Bool.{Bool, true, false, not, ◌&&◌, false≢true, and-eq-true_iff}
use mathlib.Core.List.{List, [], ◌∷◌}
use Prim.Native.Nat.{ℕ, zero, suc, ◌+◌, ◌*◌, ◌/◌, ◌%◌, ◌^◌, ◌<◌}
use native.Mathlib.Omega.{arith}
use lib.Dec.{eqb}
use lib.IntN.{ℤ}
use lib.ListN.{get_or}
use mir.Syntax.{w64}
use mir.Val.{Fits, of_z, to_z}
use mir.ValLaws.{of_z-to_z}
use borrow.Author.Tests.{eqb-true, eqb-false, eq-eqb, ne_eqb, not-true}
use Rattle.estimate.specs.declared.ClockFormat.{ClockFormat}
use Rattle.estimate.specs.Make.{is_ptp}
use Rattle.ranges.specs.Ranges.{time_within}
use Rattle.correlation.specs.declared.ReplyRecord.{ReplyRecord}
use Rattle.correlation.specs.declared.Slot.{Slot}
use Rattle.correlation.specs.declared.follow.Match.{Match}
use Rattle.correlation.specs.Words.{bit, flag, part, timed, estimated, joined, words_by, words_of, time_by, format_by, wires_by, unique_by, slot_by, slot_of}
use Rattle.correlation.specs.Slots.{corrected_slot}
use Rattle.key_ring.specs.Table.{words_at, stored_at}
use Rattle.ledger_steps.specs.Observe.{corrected_at}
use Rattle.host_follow_class.specs.Whole.{has_all, whole}

-- ---- the test

module _ (word : ℕ) (s : Slot) where
  abbrev rest : Bool
  rest = eqb (word / 2 ^ 22 % 1024) 0

  abbrev by : Option ReplyRecord → Bool
  by u = has_all u && not s.corrected && rest

  pub no_record : s.unique ≡ None → false ≡ whole word s
  no_record e = sym (ap by e)

  pub no_time : (r : ReplyRecord) → s.unique ≡ Some r → r.t4 ≡ None → false ≡ whole word s
  no_time r e t = sym (ap by e ∙ (λ i. timed (t i) && estimated r.quality && not s.corrected && rest))

  pub no_estimates : (r : ReplyRecord) (z : ℤ) → s.unique ≡ Some r → r.t4 ≡ Some z → r.quality ≡ None → false ≡ whole word s
  no_estimates r z e t q = sym (ap by e ∙ (λ i. timed (t i) && estimated (q i) && not s.corrected && rest))

  pub has_all_lem : (r : ReplyRecord) (z : ℤ) (a b : ℕ) → s.unique ≡ Some r → r.t4 ≡ Some z → r.quality ≡ Some (a, b)
      → (not s.corrected && rest) ≡ whole word s
  has_all_lem r z a b e t q = sym (ap by e ∙ (λ i. timed (t i) && estimated (q i) && not s.corrected && rest))

-- ---- the first word

-- a bit as a number
bit_at : (x : ℕ) → x < 2 → bit (eqb x 1) ≡ x
bit_at zero h = refl
bit_at (suc zero) h = refl
bit_at (suc (suc n)) h = absurd (never n h)
  where
    never : (n : ℕ) → suc (suc n) < 2 → ⊥
    never n h = omega arith

not_set : (x : ℕ) → x < 2 → eqb x 1 ≡ false → x ≡ 0
not_set zero h e = refl
not_set (suc zero) h e = absurd (eqb-false 1 1 e refl)
not_set (suc (suc n)) h e = absurd (never n h)
  where
    never : (n : ℕ) → suc (suc n) < 2 → ⊥
    never n h = omega arith

halves : (w k : ℕ) → w / 2 ^ k % 2 < 2
halves w k = small (w / 2 ^ k)
  where
    small : (x : ℕ) → x % 2 < 2
    small x = omega arith

as_format : (b : Bool) → is_ptp (format_by b) ≡ b
as_format true = refl
as_format false = refl

-- the flags in one number: a is the word without its count
module _ (a : ℕ) where
  from_1 : a ≡ a % 2 + 2 * (a / 2)
  from_1 = omega arith

  from_2 : a / 2 ≡ a / 2 % 2 + 2 * (a / 4)
  from_2 = omega arith

  from_4 : a / 4 ≡ a / 4 % 2 + 2 * (a / 8)
  from_4 = omega arith

  from_8 : a / 8 ≡ a / 8 % 2 + 2 * (a / 16)
  from_8 = omega arith

  from_16 : a / 16 ≡ a / 16 % 2 + 2 * (a / 32)
  from_16 = omega arith

  from_32 : a / 32 ≡ a / 32 % 2 + 2 * (a / 64)
  from_32 = omega arith

  from_64 : a / 64 ≡ a / 64 % 1024 + 1024 * (a / 65536)
  from_64 = omega arith

added_up : (a b c d e f g x o p : ℕ) → a ≡ o + 2 * b → b ≡ 0 + 2 * c → c ≡ 1 + 2 * d → d ≡ 1 + 2 * e → e ≡ p + 2 * f → f ≡ 1 + 2 * g → g ≡ 0 + 1024 * x
    → a + 2 ≡ (o + 2) + 4 * (1 + 2 + 4 * p + 8) + 65536 * x
added_up a b c d e f g x o p e₁ e₂ e₃ e₄ e₅ e₆ e₇ = omega arith

flags_again : (a : ℕ) → a / 2 % 2 ≡ 0 → a / 4 % 2 ≡ 1 → a / 8 % 2 ≡ 1 → a / 32 % 2 ≡ 1 → a / 64 % 1024 ≡ 0
    → a + 2 ≡ (a % 2 + 2) + 4 * (1 + 2 + 4 * (a / 16 % 2) + 8) + 65536 * (a / 65536)
flags_again a e₁ e₂ e₃ e₅ e₆ =
    added_up a (a / 2) (a / 4) (a / 8) (a / 16) (a / 32) (a / 64) (a / 65536) (a % 2) (a / 16 % 2) (from_1 a)
    (from_2 a ∙ ap (λ (n : ℕ). n + 2 * (a / 4)) e₁) (from_4 a ∙ ap (λ (n : ℕ). n + 2 * (a / 8)) e₂) (from_8 a ∙ ap (λ (n : ℕ). n + 2 * (a / 16)) e₃)
    (from_16 a) (from_32 a ∙ ap (λ (n : ℕ). n + 2 * (a / 64)) e₅) (from_64 a ∙ ap (λ (n : ℕ). n + 1024 * (a / 65536)) e₆)

sum_again : (w c a x f p l u : ℕ) → w ≡ c + 65536 * a → a + 2 ≡ (f + 2) + 4 * (1 + 2 + 4 * p + 8) + 65536 * x → x ≡ l + 65536 * u
    → joined c (f + 2) (1 + 2 + 4 * p + 8) l u ≡ w + 2 ^ 17
sum_again w c a x f p l u e₁ e₂ e₃ = omega arith

module _ (w : ℕ) where
  by_count : w ≡ w % 65536 + 65536 * (w / 65536)
  by_count = omega arith

  at_17 : w / 2 ^ 17 ≡ w / 65536 / 2
  at_17 = omega arith

  at_18 : w / 2 ^ 18 ≡ w / 65536 / 4
  at_18 = omega arith

  at_19 : w / 2 ^ 19 ≡ w / 65536 / 8
  at_19 = omega arith

  at_20 : w / 2 ^ 20 ≡ w / 65536 / 16
  at_20 = omega arith

  at_21 : w / 2 ^ 21 ≡ w / 65536 / 32
  at_21 = omega arith

  at_22 : w / 2 ^ 22 ≡ w / 65536 / 64
  at_22 = omega arith

  at_32 : w / 65536 / 65536 ≡ w / 2 ^ 32
  at_32 = omega arith

  wires_again : w < 2 ^ 64 → w / 2 ^ 32 ≡ w / 2 ^ 32 % 65536 + 65536 * (w / 2 ^ 48 % 65536)
  wires_again h = omega arith

  recomposed : w < 2 ^ 64 → w / 2 ^ 17 % 2 ≡ 0 → w / 2 ^ 18 % 2 ≡ 1 → w / 2 ^ 19 % 2 ≡ 1 → w / 2 ^ 21 % 2 ≡ 1 → w / 2 ^ 22 % 1024 ≡ 0
      → joined (w % 65536) (w / 2 ^ 16 % 2 + 2) (1 + 2 + 4 * (w / 2 ^ 20 % 2) + 8) (part 32 w) (part 48 w) ≡ w + 2 ^ 17
  recomposed h e₁ e₂ e₃ e₅ e₆ =
      sum_again w (w % 65536) (w / 65536) (w / 2 ^ 32) (w / 65536 % 2) (w / 2 ^ 20 % 2) (part 32 w) (part 48 w) by_count
      (flags_again (w / 65536) (ap (λ (x : ℕ). x % 2) (sym at_17) ∙ e₁) (ap (λ (x : ℕ). x % 2) (sym at_18) ∙ e₂) (ap (λ (x : ℕ). x % 2) (sym at_19) ∙ e₃)
      (ap (λ (x : ℕ). x % 2) (sym at_21) ∙ e₅) (ap (λ (x : ℕ). x % 1024) (sym at_22) ∙ e₆)
      ∙ (λ i. (w / 65536 % 2 + 2) + 4 * (1 + 2 + 4 * (sym at_20 i % 2) + 8) + 65536 * at_32 i))
      (wires_again h)

-- ---- the three words

three : (b c d : Bool) (s r t : ℕ) (f : ClockFormat) (z : ℤ)
    → has_all (unique_by b (record { quality = wires_by c s r; t4 = time_by d t; format = f; reference = z })) ≡ true → (b ≡ true) × (c ≡ true) × (d ≡ true)
three false c d s r t f z h = absurd (false≢true h)
three true false false s r t f z h = absurd (false≢true h)
three true false true s r t f z h = absurd (false≢true h)
three true true false s r t f z h = absurd (false≢true h)
three true true true s r t f z h = (refl, refl, refl)

module _ (w t r : ℕ) (fw : w < 2 ^ 64) (h : whole w (slot_by w t r) ≡ true) where
  abbrev there : Bool
  there = has_all (slot_by w t r).unique

  tests : (there && not (flag 17 w) ≡ true) × (eqb (w / 2 ^ 22 % 1024) 0 ≡ true)
  tests = (and-eq-true_iff (there && not (flag 17 w)) (eqb (w / 2 ^ 22 % 1024) 0)).0 h

  first : (there ≡ true) × (not (flag 17 w) ≡ true)
  first = (and-eq-true_iff there (not (flag 17 w))).0 tests.0

  set : (flag 18 w ≡ true) × (flag 21 w ≡ true) × (flag 19 w && time_within (to_z w64 t) ≡ true)
  set = three (flag 18 w) (flag 21 w) (flag 19 w && time_within (to_z w64 t)) (part 32 w) (part 48 w) t (format_by (flag 20 w)) (to_z w64 r) first.0

  clear : w / 2 ^ 17 % 2 ≡ 0
  clear = not_set (w / 2 ^ 17 % 2) (halves w 17) (not-true (flag 17 w) first.1)

  -- the bit can be added
  pub bit-fits : w + 131072 < 2 ^ 64
  bit-fits = below w fw clear
    where
      below : (w : ℕ) → w < 2 ^ 64 → w / 2 ^ 17 % 2 ≡ 0 → w + 131072 < 2 ^ 64
      below w h e = omega arith

  record_as : (slot_by w t r).unique ≡ Some (record { quality = Some (part 32 w, part 48 w); t4 = Some (to_z w64 t); format = format_by (flag 20 w); reference = to_z w64 r })
  record_as = λ i. unique_by (set.0 i) (record { quality = wires_by (set.1 i) (part 32 w) (part 48 w); t4 = time_by (set.2 i) t; format = format_by (flag 20 w); reference = to_z w64 r })

  first_word : joined (w % 65536) (bit (flag 16 w) + 2) (1 + 2 + 4 * bit (is_ptp (format_by (flag 20 w))) + 8) (part 32 w) (part 48 w) ≡ w + 2 ^ 17
  first_word =
      (λ i.
      joined (w % 65536) (bit_at (w / 2 ^ 16 % 2) (halves w 16) i + 2)
      (1 + 2 + 4 * (ap bit (as_format (flag 20 w)) ∙ bit_at (w / 2 ^ 20 % 2) (halves w 20)) i + 8) (part 32 w) (part 48 w))
      ∙ recomposed w fw clear (eqb-true (w / 2 ^ 18 % 2) 1 set.0)
      (eqb-true (w / 2 ^ 19 % 2) 1 ((and-eq-true_iff (flag 19 w) (time_within (to_z w64 t))).0 set.2).0) (eqb-true (w / 2 ^ 21 % 2) 1 set.1)
      (eqb-true (w / 2 ^ 22 % 1024) 0 tests.1)

  pub bit-set : Fits w64 t → Fits w64 r → (w + 131072) ∷ t ∷ r ∷ [] ≡ words_of (corrected_slot (slot_by w t r))
  unfolding words_of
  bit-set ft fr = sym (
      ap (words_by (w % 65536) (bit (flag 16 w) + 2)) record_as ∙ (λ i. first_word i ∷ of_z-to_z w64 t ft i ∷ of_z-to_z w64 r fr i ∷ []))

-- the same of a slot that the words say
module _ (w t r : ℕ) (s : Slot) (b : Bool) (es : s ≡ slot_by w t r) (eb : b ≡ whole w s) (h : b ≡ true) where
  said-whole : whole w (slot_by w t r) ≡ true
  said-whole = sym (ap (whole w) es) ∙ sym eb ∙ h

  pub said_fits : w < 2 ^ 64 → w + 131072 < 2 ^ 64
  said_fits f = bit-fits w t r f said-whole

  pub said-set : w < 2 ^ 64 → Fits w64 t → Fits w64 r → (w + 131072) ∷ t ∷ r ∷ [] ≡ words_of (corrected_slot (slot_by w t r))
  said-set f ft fr = bit-set w t r f said-whole ft fr

-- ---- the room

pub held_slot : (held : List ℕ) (s : Slot) → s ≡ slot_of held → s ≡ slot_by (get_or held 0 0) (get_or held 1 0) (get_or held 2 0)
unfolding slot_of
held_slot held s e = e

pub corrected_in : (N : ℕ) (c : Class) (m : Match) (slots : List (List ℕ)) (at : ℕ) (held words : List ℕ) (slots' : List (List ℕ))
    → c ≡ Ok m → held ≡ words_at N slots at → words ≡ words_of (corrected_slot (slot_by (get_or held 0 0) (get_or held 1 0) (get_or held 2 0))) → slots' ≡ stored_at N slots at words
    → slots' ≡ corrected_at c N slots at
unfolding slot_of
corrected_in N c m slots at held words slots' e₁ e₂ e₃ e₄ = rw (e₁, e₄, e₃, e₂)
