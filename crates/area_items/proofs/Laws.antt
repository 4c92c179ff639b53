-- Types and their lengths, the item at a place, and reading step by step: what the proofs of the functions cite. Assumes nothing.
use Rattle.std.specs.Prelude.{Result, Ok, Err}
use Rattle.limits.specs.declared.Refusal.{Refusal}
use Rattle.limits.specs.declared.Refusal.TheVariants as refusal
use mathlib.Core.Path.{◌≡◌, refl, sym, ap, ◌∙◌}
use mathlib.Core.Bool.{Bool, true, false, cond}
use mathlib.Core.List.{List, []}
use Prim.Native.Nat.{ℕ, zero, suc, ◌+◌, ◌-◌, ◌*◌, ◌%◌, ◌≤◌, ◌<◌, ◌^◌}
use native.Mathlib.Omega.{arith}
use lib.Dec.{eqb, ltb}
use lib.ListN.{length, drop, length-drop}
use lib.Seq.{length-take-le}
use borrow.Author.Tests.{lt-ltb, le-ltb, ltb-false, eq-eqb, ne_eqb}
use Rattle.big_endian.specs.Numbers.{number_at}
use Rattle.area_items.specs.Items.{Reading, refused, items, before, judged, kind_at, length_at, end_at, item_at, fits, verdict_at, read_from, rest_of}
use Rattle.area_items.specs.Rows.{word_of}

-- ---- types and lengths

module _ (kind n : ℕ) where
  pub five : kind ≡ 5 → eqb n 12 ≡ fits kind n
  unfolding fits
  five h = rw (eq-eqb kind 5 h)

  pub seven : (kind ≡ 5 → ⊥) → kind ≡ 7 → eqb n 16 ≡ fits kind n
  unfolding fits
  seven h k = rw (ne_eqb kind 5 h, eq-eqb kind 7 k)

-- ---- the item at a place

module _ (bytes : List ℕ) (at : ℕ) where
  pub no_header : length bytes < at + 4 → Err refusal.PassesEnd ≡ verdict_at bytes at
  unfolding verdict_at
  no_header h = rw (lt-ltb (length bytes) (at + 4) h)

  pub no_value : at + 4 ≤ length bytes → length bytes < end_at bytes at → Err refusal.PassesEnd ≡ verdict_at bytes at
  unfolding verdict_at
  no_value h k = rw (le-ltb (length bytes) (at + 4) h, lt-ltb (length bytes) (end_at bytes at) k)

  pub right_length : at + 4 ≤ length bytes → end_at bytes at ≤ length bytes → fits (kind_at bytes at) (length_at bytes at) ≡ true → Ok tt ≡ verdict_at bytes at
  unfolding verdict_at
  right_length h k e = rw (le-ltb (length bytes) (at + 4) h, le-ltb (length bytes) (end_at bytes at) k, e)

  pub wrong-length : at + 4 ≤ length bytes → end_at bytes at ≤ length bytes → fits (kind_at bytes at) (length_at bytes at) ≡ false → Err refusal.WrongLength ≡ verdict_at bytes at
  unfolding verdict_at
  wrong-length h k e = rw (le-ltb (length bytes) (at + 4) h, le-ltb (length bytes) (end_at bytes at) k, e)

  -- a good item lies within the bytes, and has a length of its type
  pub good : verdict_at bytes at ≡ Ok tt → (at + 4 ≤ length bytes) × (end_at bytes at ≤ length bytes) × (fits (kind_at bytes at) (length_at bytes at) ≡ true)
  unfolding verdict_at
  good = by (ltb (length bytes) (at + 4)) (ltb (length bytes) (end_at bytes at)) (fits (kind_at bytes at) (length_at bytes at)) refl refl refl
    where
      by : (a b d : Bool) → ltb (length bytes) (at + 4) ≡ a → ltb (length bytes) (end_at bytes at) ≡ b → fits (kind_at bytes at) (length_at bytes at) ≡ d
          → ◌≡◌ {A = Result (Unit {0}) Refusal} (cond a (Err refusal.PassesEnd) (cond b (Err refusal.PassesEnd) (cond d (Ok tt) (Err refusal.WrongLength)))) (Ok tt) → (at + 4 ≤ length bytes) × (end_at bytes at ≤ length bytes) × (fits (kind_at bytes at) (length_at bytes at) ≡ true)
      by true b d p q r e = absurd (cc)
      by false true d p q r e = absurd (cc)
      by false false true p q r e = (ltb-false (length bytes) (at + 4) p, ltb-false (length bytes) (end_at bytes at) q, r)
      by false false false p q r e = absurd (cc)

  -- its value is as long as its header says
  pub value-length : end_at bytes at ≤ length bytes → length (item_at bytes at).value ≡ length_at bytes at
  value-length h = length-take-le (length_at bytes at) (drop (at + 4) bytes) (omega (arith, length-drop (at + 4) bytes))

  pub word_is : end_at bytes at ≤ length bytes → number_at 2 bytes at * 2 ^ 32 + (at + 4) % 2 ^ 32 ≡ word_of (item_at bytes at)
  word_is h = ap (λ (n : ℕ). (((item_at bytes at).flags * 256 + (item_at bytes at).kind) * 65536 + n) * 2 ^ 32 + (at + 4) % 2 ^ 32) (sym (value-length h))

-- ---- reading

-- more steps than there are bytes left change nothing
pub enough : (n m : ℕ) (bytes : List ℕ) (at : ℕ) → length bytes - at ≤ n → length bytes - at ≤ m → read_from n bytes at ≡ read_from m bytes at
unfolding read_from
enough zero zero bytes at h k = refl
enough zero (suc m) bytes at h k = rw (le-ltb at (length bytes) (omega arith))
enough (suc n) zero bytes at h k = rw (le-ltb at (length bytes) (omega arith))
enough (suc n) (suc m) bytes at h k =
    ap (λ (r : Reading). cond (ltb at (length bytes)) (judged (verdict_at bytes at) (item_at bytes at) r) (items []))
    (enough n m bytes (end_at bytes at) (omega arith) (omega arith))

module _ (bytes : List ℕ) (at : ℕ) where
  pub rest_end : length bytes ≤ at → rest_of bytes at ≡ items []
  unfolding rest_of read_from
  rest_end h = enough (length bytes - at) 0 bytes at (omega arith) (omega arith)

  pub rest_step : at < length bytes → rest_of bytes at ≡ judged (verdict_at bytes at) (item_at bytes at) (rest_of bytes (end_at bytes at))
  unfolding rest_of read_from
  rest_step h =
      enough (length bytes - at) (suc (length bytes - at)) bytes at (omega arith) (omega arith)
      ∙ ap (λ (b : Bool). cond b (judged (verdict_at bytes at) (item_at bytes at) (read_from (length bytes - at) bytes (end_at bytes at))) (items [])) (lt-ltb at (length bytes) h)
      ∙ ap (judged (verdict_at bytes at) (item_at bytes at)) (enough (length bytes - at) (length bytes - end_at bytes at) bytes (end_at bytes at) (omega arith) (omega arith))

  pub rest_bad : at < length bytes → (e : Refusal) → Err e ≡ verdict_at bytes at → rest_of bytes at ≡ refused e
  rest_bad h e is = rest_step h ∙ ap (λ (w : Result (Unit {0}) Refusal). judged w (item_at bytes at) (rest_of bytes (end_at bytes at))) (sym is)

  pub rest_good : at < length bytes → Ok tt ≡ verdict_at bytes at → rest_of bytes at ≡ before (item_at bytes at) (rest_of bytes (end_at bytes at))
  rest_good h is = rest_step h ∙ ap (λ (w : Result (Unit {0}) Refusal). judged w (item_at bytes at) (rest_of bytes (end_at bytes at))) (sym is)
