-- The prefix, all digits, and the bytes of the digits: what the proofs of the functions cite. Assumes nothing.
use Rattle.std.specs.Prelude.{Ok, Err}
use Rattle.limits.specs.declared.Refusal.TheVariants as refusal
use mathlib.Core.Path.{◌≡◌, refl, sym, ap, ◌∙◌, subst}
use mathlib.Core.Bool.{Bool, true, false, ◌&&◌, cond}
use mathlib.Core.List.{List, [], ◌∷◌, ◌++◌}
use Prim.Native.Nat.{ℕ, zero, suc, ◌+◌, ◌*◌, ◌/◌, ◌%◌, ◌≤◌, ◌<◌}
use native.Mathlib.Nat.{zero-add}
use native.Mathlib.Numerals.{add-one}
use native.Mathlib.Omega.{arith}
use lib.Dec.{T, ltb, ltb→lt, eqb}
use lib.Ieee.Fits.{and_l}
use lib.ListN.{length, get_or, set, drop}
use lib.Seq.{drop-cons, drop-length, paste, paste-suc, take_all}
use borrow.Author.Tests.{lt-ltb, le-ltb, eq-eqb, ne_eqb}
use Rattle.bit_pattern.specs.Pattern.{digit_of, after_prefix, all_digits, bytes_of, outcome, decoded}
use Rattle.bit_pattern.proofs.Digits.{digit-most}

-- ---- the prefix

no_second : (a : Bool) (s t : List ℕ) → t ≡ cond (a && false) s t
no_second true s t = refl
no_second false s t = refl

pub too_short : (text : List ℕ) → length text < 2 → text ≡ after_prefix text
unfolding after_prefix
too_short [] h = refl
too_short (x ∷ []) h = no_second (eqb x 48) [] (x ∷ [])
too_short (x ∷ y ∷ l) h = absurd (omega arith)

module _ (text : List ℕ) where
  pub prefixed : get_or text 0 0 ≡ 48 → get_or text 1 0 ≡ 120 → drop 2 text ≡ after_prefix text
  unfolding after_prefix
  prefixed h k = rw (eq-eqb (get_or text 0 0) 48 h, eq-eqb (get_or text 1 0) 120 k)

  pub another_first : (get_or text 0 0 ≡ 48 → ⊥) → text ≡ after_prefix text
  unfolding after_prefix
  another_first h = rw (ne_eqb (get_or text 0 0) 48 h)

  pub another_second : (get_or text 1 0 ≡ 120 → ⊥) → text ≡ after_prefix text
  unfolding after_prefix
  another_second h = rw (ne_eqb (get_or text 1 0) 120 h) (no_second (eqb (get_or text 0 0) 48) (drop 2 text) text)

-- ---- all digits

module _ (text : List ℕ) (at : ℕ) where
  next_of : at < length text → all_digits (drop at text) ≡ ltb (digit_of (get_or text at 0)) 16 && all_digits (drop (at + 1) text)
  unfolding all_digits
  next_of h = rw (add-one, drop-cons text at 0 h)

  pub no_digit : at < length text → all_digits text ≡ all_digits (drop at text) → digit_of (get_or text at 0) ≡ 16 → false ≡ all_digits text
  no_digit h e d = sym (e ∙ next_of h ∙ ap (λ (b : Bool). b && all_digits (drop (at + 1) text)) (le-ltb (digit_of (get_or text at 0)) 16 (omega arith)))

  pub a_digit : at < length text → all_digits text ≡ all_digits (drop at text) → (digit_of (get_or text at 0) ≡ 16 → ⊥) → all_digits text ≡ all_digits (drop (at + 1) text)
  a_digit h e d =
      e ∙ next_of h
      ∙ ap (λ (b : Bool). b && all_digits (drop (at + 1) text)) (lt-ltb (digit_of (get_or text at 0)) 16 (omega (arith, d, digit-most (get_or text at 0))))

  pub no_more : length text ≤ at → at ≤ length text → all_digits text ≡ all_digits (drop at text) → true ≡ all_digits text
  unfolding all_digits
  no_more h k e =
      let l : length text ≡ at = omega arith in
      sym (e ∙ ap (λ (n : ℕ). all_digits (drop n text)) (sym l) ∙ ap all_digits (drop-length text))

pub digit_at : (ds : List ℕ) (i : ℕ) → all_digits ds ≡ true → i < length ds → digit_of (get_or ds i 0) < 16
unfolding all_digits
digit_at [] i e h = absurd (omega arith)
digit_at (b ∷ bs) zero e h = ltb→lt (digit_of b) 16 (and_l (ltb (digit_of b) 16) (all_digits bs) (subst T (sym e) tt))
digit_at (b ∷ bs) (suc i) e h = digit_at bs i (all_of (ltb (digit_of b) 16) e) (omega arith)
  where
    all_of : (t : Bool) → t && all_digits bs ≡ true → all_digits bs ≡ true
    all_of true e = e
    all_of false e = absurd (subst T (sym e) tt)

-- ---- the bytes

pub bytes-length : (ds : List ℕ) → length (bytes_of ds) ≡ length ds / 2
unfolding bytes_of
bytes-length [] = refl
bytes-length (a ∷ []) = refl
bytes-length (a ∷ b ∷ bs) = omega (arith, bytes-length bs)

pub byte_at : (ds : List ℕ) (i : ℕ) → i < length ds / 2 → get_or (bytes_of ds) i 0 ≡ digit_of (get_or ds (2 * i) 0) * 16 + digit_of (get_or ds (2 * i + 1) 0)
unfolding bytes_of
byte_at [] i h = absurd (omega arith)
byte_at (a ∷ []) i h = absurd (omega arith)
byte_at (a ∷ b ∷ bs) zero h = refl
byte_at (a ∷ b ∷ bs) (suc i) h =
    let e : 2 * suc i ≡ suc (suc (2 * i)) = omega arith in
    let f : 2 * suc i + 1 ≡ suc (suc (2 * i + 1)) = omega arith in
    byte_at bs i (omega arith)
    ∙ ap (λ (n : ℕ). digit_of (get_or (a ∷ b ∷ bs) n 0) * 16 + digit_of (get_or bs (2 * i + 1) 0)) (sym e)
    ∙ ap (λ (n : ℕ). digit_of (get_or (a ∷ b ∷ bs) (2 * suc i) 0) * 16 + digit_of (get_or (a ∷ b ∷ bs) n 0)) (sym f)

-- one more byte written at the start of a room
pub put_more : (room ds r : List ℕ) (at v : ℕ) → at < length ds / 2 → length ds / 2 ≤ length room → r ≡ paste room 0 (bytes_of ds) at
    → v ≡ digit_of (get_or ds (2 * at) 0) * 16 + digit_of (get_or ds (2 * at + 1) 0) → set r at v ≡ paste room 0 (bytes_of ds) (at + 1)
put_more room ds r at v h k e b =
    ap (λ (l : List ℕ). set l at v) e
    ∙ ap (set (paste room 0 (bytes_of ds) at) at) (b ∙ sym (byte_at ds at h))
    ∙ ap (λ (n : ℕ). set (paste room 0 (bytes_of ds) at) n (get_or (bytes_of ds) at 0)) (sym (zero-add at))
    ∙ paste-suc room 0 (bytes_of ds) at 0 (omega arith) (omega (arith, bytes-length ds))
    ∙ ap (paste room 0 (bytes_of ds)) (sym (add-one at))

-- all bytes written
pub all_put : (room ds r : List ℕ) (at : ℕ) → at ≡ length ds / 2 → r ≡ paste room 0 (bytes_of ds) at → r ≡ bytes_of ds ++ drop (length ds / 2) room
all_put room ds r at h e =
    e
    ∙ ap (λ (n : ℕ). paste room 0 (bytes_of ds) n) h
    ∙ ap (λ (l : List ℕ). l ++ drop (0 + length ds / 2) room) (take_all (length ds / 2) (bytes_of ds) (omega (arith, bytes-length ds)))
    ∙ ap (λ (n : ℕ). bytes_of ds ++ drop n room) (zero-add (length ds / 2))

-- ---- the answers

module _ (digits room : List ℕ) where
  pub empty : length digits ≡ 0 → outcome (Err refusal.BadPattern) room ≡ decoded digits room
  unfolding decoded
  empty h = rw (eq-eqb (length digits) 0 h)

  pub odd : (length digits ≡ 0 → ⊥) → length digits % 2 ≡ 1 → outcome (Err refusal.BadPattern) room ≡ decoded digits room
  unfolding decoded
  odd h k = rw (ne_eqb (length digits) 0 h, eq-eqb (length digits % 2) 1 k)

  module _ (h : length digits ≡ 0 → ⊥) (k : length digits % 2 ≡ 1 → ⊥) where
    pub another_character : all_digits digits ≡ false → outcome (Err refusal.BadPattern) room ≡ decoded digits room
    unfolding decoded
    another_character a = rw (ne_eqb (length digits) 0 h, ne_eqb (length digits % 2) 1 k, a)

    pub short : all_digits digits ≡ true → length room < length digits / 2 → outcome (Err refusal.ShortRoom) room ≡ decoded digits room
    unfolding decoded
    short a l = rw (ne_eqb (length digits) 0 h, ne_eqb (length digits % 2) 1 k, a, lt-ltb (length room) (length digits / 2) l)

    pub fits : (after : List ℕ) → all_digits digits ≡ true → length digits / 2 ≤ length room → after ≡ bytes_of digits ++ drop (length digits / 2) room
        → outcome (Ok (length digits / 2)) after ≡ decoded digits room
    unfolding decoded
    fits after a l e = rw (ne_eqb (length digits) 0 h, ne_eqb (length digits % 2) 1 k, a, le-ltb (length room) (length digits / 2) l) (ap (outcome (Ok (length digits / 2))) e)
