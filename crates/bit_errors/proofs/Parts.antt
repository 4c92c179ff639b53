-- Bytes against bytes, in parts: words, a pattern that is repeated, and how many bits there are. Assumes nothing.
use mathlib.Core.Path.{◌≡◌, refl, sym, ap, ap₂, ◌∙◌, subst}
use mathlib.Core.List.{List, [], ◌∷◌, ◌++◌, append_assoc, append-nil}
use Prim.Native.Nat.{ℕ, zero, suc, ◌+◌, ◌-◌, ◌*◌, ◌^◌, ◌≤◌, ◌<◌}
use native.Mathlib.Nat.{pow-suc}
use native.Mathlib.Omega.{arith}
use lib.ListN.{length, get_or, take, drop, length-append, length-take, length-drop, take-append-drop}
use lib.Seq.{drop-cons, take-add, take_all, drop-drop}
use lib.Arith.{digits_lt}
use lib.Pow.{pow-add}
use lib.Bits.{bit_xor, xor_block, xor_lt}
use Rattle.big_endian.specs.Numbers.{base, number_at}
use Rattle.bit_runs.specs.Bits.{bits_of, all_bits, ones_of}
use Rattle.bit_errors.specs.Parts.{differing}
use Rattle.bit_runs.specs.declared.Tally.{Tally}
use Rattle.bit_runs.specs.Tally.{after, Room}
use Rattle.bit_runs.proofs.Lists.{ones_append}
use Rattle.bit_runs.proofs.Digits.{bits_length, bits_cat}
use Rattle.bit_runs.proofs.Steps.{after-append, after_none, room_after}
use Rattle.word_runs.proofs.Windows.{bits_fair}

pub bits_append : (s t : List ℕ) → all_bits (s ++ t) ≡ all_bits s ++ all_bits t
unfolding all_bits
bits_append [] t = refl
bits_append (b ∷ s) t = ap (λ (l : List ℕ). bits_of 8 b ++ l) (bits_append s t) ∙ sym (append_assoc (bits_of 8 b) (all_bits s) (all_bits t))

pub all_length : (s : List ℕ) → length (all_bits s) ≡ 8 * length s
unfolding all_bits
all_length [] = refl
all_length (b ∷ s) = omega (arith, length-append (bits_of 8 b) (all_bits s), bits_length 8 b, all_length s)

pub all_fair : (s : List ℕ) → ones_of (all_bits s) ≤ length (all_bits s)
unfolding all_bits ones_of
all_fair [] = omega arith
all_fair (b ∷ s) = omega (arith, ones_append (bits_of 8 b) (all_bits s), length-append (bits_of 8 b) (all_bits s), bits_fair 8 b, all_fair s)

pub differing-length : (p q : List ℕ) → length p ≤ length q → length (differing p q) ≡ length p
unfolding differing
differing-length [] q h = refl
differing-length (b ∷ p) [] h = absurd (omega arith)
differing-length (b ∷ p) (d ∷ q) h = ap suc (differing-length p q (omega arith))

differing-nil : (p : List ℕ) → differing p [] ≡ []
unfolding differing
differing-nil [] = refl
differing-nil (b ∷ p) = refl

pub differing-drop : (n : ℕ) (p q : List ℕ) → drop n (differing p q) ≡ differing (drop n p) (drop n q)
unfolding differing
differing-drop zero p q = refl
differing-drop (suc n) [] q = refl
differing-drop (suc n) (b ∷ p) [] = sym (differing-nil (drop n p))
differing-drop (suc n) (b ∷ p) (d ∷ q) = differing-drop n p q

pub differing-at : (p q : List ℕ) (i : ℕ) → i < length p → i < length q → get_or (differing p q) i 0 ≡ bit_xor (get_or p i 0) (get_or q i 0)
unfolding differing
differing-at [] q i h g = absurd (omega arith)
differing-at (b ∷ p) [] i h g = absurd (omega arith)
differing-at (b ∷ p) (d ∷ q) zero h g = refl
differing-at (b ∷ p) (d ∷ q) (suc i) h g = differing-at p q i (omega arith) (omega arith)

-- ---- words

bits_of-base : (n : ℕ) → 256 ^ n ≡ 2 ^ (8 * n)
bits_of-base zero = refl
bits_of-base (suc n) =
    let e : 8 * suc n ≡ 8 * n + 8 = omega arith in
    pow-suc 256 n ∙ ap (λ (m : ℕ). m * 256) (bits_of-base n) ∙ sym (pow-add 2 (8 * n) 8) ∙ ap (λ (m : ℕ). 2 ^ m) (sym e)

twofold : (k : ℕ) → 2 ^ suc k ≡ 2 ^ k + 2 ^ k
twofold k = omega (arith, pow-suc 2 k)

-- the bits in 2 ^ k bytes
abbrev pub width : ℕ → ℕ
width k = 8 * 2 ^ k

base_is : (k : ℕ) → base k ≡ 2 ^ width k
base_is k = bits_of-base (2 ^ k)

width_twofold : (k : ℕ) → width (suc k) ≡ width k + width k
width_twofold k = omega (arith, twofold k)

number_parts : (k at : ℕ) (p : List ℕ) → number_at (suc k) p at ≡ number_at k p at * 2 ^ width k + number_at k p (at + 2 ^ k)
number_parts k at p = ap (λ (b : ℕ). number_at k p at * b + number_at k p (at + 2 ^ k)) (base_is k)

pub number_lt : (p : List ℕ) → ((i : ℕ) → get_or p i 0 < 256) → (k at : ℕ) → number_at k p at < 2 ^ width k
number_lt p bytes zero at = bytes at
number_lt p bytes (suc k) at =
    subst (λ (n : ℕ). n < 2 ^ width (suc k)) (sym (number_parts k at p))
    (subst (λ (m : ℕ). number_at k p at * 2 ^ width k + number_at k p (at + 2 ^ k) < m)
    (sym (pow-add 2 (width k) (width k)) ∙ ap (λ (m : ℕ). 2 ^ m) (sym (width_twofold k)))
    (digits_lt (number_lt p bytes k at) (number_lt p bytes k (at + 2 ^ k))))

pub one_byte : (p q : List ℕ) (at : ℕ) → at < length p → length p ≤ length q
    → take 1 (drop at (differing p q)) ≡ bit_xor (get_or p at 0) (get_or q at 0) ∷ []
one_byte p q at h g =
    ap (take 1) (drop-cons (differing p q) at 0 (omega (arith, differing-length p q g)))
    ∙ ap (λ (b : ℕ). b ∷ []) (differing-at p q at h (omega arith))

module _ (p q : List ℕ) (g : length p ≤ length q) (p-bytes : (i : ℕ) → get_or p i 0 < 256) (q-bytes : (i : ℕ) → get_or q i 0 < 256) where
  -- the bits of 2 ^ k bytes are those of the number that they hold
  pub word_bits : (k at : ℕ) → at + 2 ^ k ≤ length p → all_bits (take (2 ^ k) (drop at (differing p q))) ≡ bits_of (width k) (bit_xor (number_at k p at) (number_at k q at))
  unfolding all_bits
  word_bits zero at h = ap all_bits (one_byte p q at (omega arith) g) ∙ append-nil (bits_of 8 (bit_xor (get_or p at 0) (get_or q at 0)))
  word_bits (suc k) at h =
      let l : at + 2 ^ k + 2 ^ k ≤ length p = omega (arith, twofold k) in
      ap (λ (n : ℕ). all_bits (take n (drop at (differing p q)))) (twofold k)
      ∙ ap all_bits (take-add (2 ^ k) (2 ^ k) (drop at (differing p q)))
      ∙ ap (λ (d : List ℕ). all_bits (take (2 ^ k) (drop at (differing p q)) ++ take (2 ^ k) d)) (drop-drop (2 ^ k) at (differing p q))
      ∙ bits_append (take (2 ^ k) (drop at (differing p q))) (take (2 ^ k) (drop (at + 2 ^ k) (differing p q)))
      ∙ ap₂ (λ (s t : List ℕ). s ++ t) (word_bits k at (omega arith)) (word_bits k (at + 2 ^ k) l)
      ∙ sym (bits_cat (width k) (width k) (bit_xor (number_at k p at) (number_at k q at)) (bit_xor (number_at k p (at + 2 ^ k)) (number_at k q (at + 2 ^ k)))
      (xor_lt (width k) (number_at k p (at + 2 ^ k)) (number_at k q (at + 2 ^ k)) (number_lt p p-bytes k (at + 2 ^ k)) (number_lt q q-bytes k (at + 2 ^ k))))
      ∙ ap₂ bits_of (sym (width_twofold k))
      (sym (xor_block (width k) (number_at k p at) (number_at k q at) (number_at k p (at + 2 ^ k)) (number_at k q (at + 2 ^ k))
      (number_lt p p-bytes k (at + 2 ^ k)) (number_lt q q-bytes k (at + 2 ^ k)))
      ∙ ap₂ bit_xor (sym (number_parts k at p)) (sym (number_parts k at q)))

-- ---- a tally behind the first bytes of two rows

pub room_less : (m n : ℕ) (t : Tally) → m ≤ n → Room n t → Room m t
room_less m n t l h = record { errors = omega (arith, l, h.errors); longest = omega (arith, l, h.longest); run = h.run }

module _ (bytes : List ℕ) (t : Tally) where
  -- behind the first n bytes
  abbrev pub up_to : ℕ → Tally
  up_to n = after (all_bits (take n bytes)) t

  pub up_to-none : t.run ≤ t.longest → t ≡ up_to 0
  unfolding all_bits
  up_to-none h = after_none t h

  pub up_to_more : (at n : ℕ) (bits : List ℕ) → all_bits (take n (drop at bytes)) ≡ bits → after bits (up_to at) ≡ up_to (at + n)
  up_to_more at n bits e =
      sym (after-append (all_bits (take at bytes)) bits t)
      ∙ ap (λ (s : List ℕ). after s t)
      (ap (λ (s : List ℕ). all_bits (take at bytes) ++ s) (sym e)
      ∙ sym (bits_append (take at bytes) (take n (drop at bytes)))
      ∙ ap all_bits (sym (take-add at n bytes)))

  pub up_to_room : (at n total : ℕ) → at + n ≤ total → Room (8 * total) t → Room (8 * n) (up_to at)
  up_to_room at n total h r =
      room_after (all_bits (take at bytes)) (8 * n) t (all_fair (take at bytes))
      (room_less (length (all_bits (take at bytes)) + 8 * n) (8 * total) t
      (omega (arith, h, all_length (take at bytes), length-take at bytes)) r)

-- ---- what is left behind the first n bytes

-- a part that goes to the end
pub tail : (n : ℕ) (s : List ℕ) → take (length s - n) (drop n s) ≡ drop n s
tail n s = take_all (length s - n) (drop n s) (omega (arith, length-drop n s))

module _ (p q : List ℕ) (t : Tally) (n : ℕ) (g : length p ≤ length q) (h : n ≤ length p) where
  pub rest_fits : length (take (length p - n) (drop n p)) ≤ length (take (length q - n) (drop n q))
  rest_fits = omega (arith, ap length (tail n p), ap length (tail n q), length-drop n p, length-drop n q)

  pub rest_room : Room (8 * length p) t → Room (8 * length (take (length p - n) (drop n p))) (up_to (differing p q) t n)
  rest_room r =
      let e : length (take (length p - n) (drop n p)) ≡ length p - n = omega (arith, ap length (tail n p), length-drop n p) in
      subst (λ (m : ℕ). Room (8 * m) (up_to (differing p q) t n)) (sym e) (up_to_room (differing p q) t n (length p - n) (length p) (omega arith) r)

  pub rest_after : after (all_bits (differing (take (length p - n) (drop n p)) (take (length q - n) (drop n q)))) (up_to (differing p q) t n)
      ≡ after (all_bits (differing p q)) t
  rest_after =
      ap (λ (s : List ℕ). after (all_bits s) (up_to (differing p q) t n)) (ap₂ differing (tail n p) (tail n q) ∙ sym (differing-drop n p q))
      ∙ sym (after-append (all_bits (take n (differing p q))) (all_bits (drop n (differing p q))) t)
      ∙ ap (λ (s : List ℕ). after s t)
      (sym (bits_append (take n (differing p q)) (drop n (differing p q))) ∙ ap all_bits (take-append-drop n (differing p q)))
