-- What a byte or a word of k bits does to the counts, in the processor's terms: one law over the width. Assumes nothing.
use mathlib.Core.Path.{◌≡◌, refl, sym, ap, ap₂, ◌∙◌, subst}
use mathlib.Core.List.{List, [], ◌∷◌, ◌++◌}
use Prim.Native.Nat.{ℕ, zero, suc, ◌+◌, ◌-◌, ◌%◌, ◌^◌, ◌≤◌, ◌<◌, max}
use native.Mathlib.Nat.{zero-div}
use native.Mathlib.Omega.{arith}
use lib.ListN.{length, replicate}
use lib.Pow.{pow_pos}
use lib.Count.{ones, ones-ones, count_leading_zeros, leading_top, leading_of_zero, count_trailing_zeros}
use Rattle.bit_runs.specs.Bits.{bits_of, ones_of, longest_from, ending_run}
use Rattle.bit_runs.specs.declared.Tally.{Tally}
use Rattle.bit_runs.specs.Tally.{after, Room}
use Rattle.bit_runs.proofs.Lists.{leading_run, ones_append, ending-append, longest-append, ends, longest_bound, longest_from_lem, ending_from, ending_through}
use Rattle.bit_runs.proofs.Digits.{bits_length}
use Rattle.bit_runs.proofs.Counts.{bits_ones, bits_leading, bits_ending}

module _ (k r x : ℕ) (h : x < 2 ^ k) where
  -- all ones
  through : x ≡ 2 ^ k - 1 → ending_run r (bits_of k x) ≡ r + k
  through e =
      ending_through r (bits_of k x)
      (bits_leading k x h ∙ ap (count_leading_zeros k) (omega arith) ∙ leading_of_zero k ∙ sym (bits_length k x))
      ∙ ap (λ (n : ℕ). r + n) (bits_length k x)

  leading_short : (x ≡ 2 ^ k - 1 → ⊥) → leading_run (bits_of k x) < length (bits_of k x)
  leading_short n =
      let t = leading_top k (2 ^ k - 1 - x) (omega arith) (omega (arith, pow_pos k)) in
      omega (arith, t.1, bits_leading k x h, bits_length k x)

  -- not all ones
  ending : (x ≡ 2 ^ k - 1 → ⊥) → ending_run r (bits_of k x) ≡ count_trailing_zeros k (2 ^ k - 1 - x)
  ending n = ending_from r (bits_of k x) (leading_short n) ∙ bits_ending k x h

  pub reached : longest_from r (bits_of k x) ≡ max (r + count_leading_zeros k (2 ^ k - 1 - x)) (longest_from 0 (bits_of k x))
  reached = longest_from_lem r (bits_of k x) ∙ ap (λ (n : ℕ). max (r + n) (longest_from 0 (bits_of k x))) (bits_leading k x h)

-- equal parts make an equal tally
same : {e e' r r' l l' : ℕ} → e ≡ e' → r ≡ r' → l ≡ l'
    → ◌≡◌ {A = Tally} (record { errors = e; run = r; longest = l }) (record { errors = e'; run = r'; longest = l' })
same p q s = cc

-- What a number of k bits does to a tally.
pub stepped : (k x : ℕ) (t : Tally) → x < 2 ^ k → {r l : ℕ} → r ≡ ending_run t.run (bits_of k x)
    → l ≡ max (max t.longest (t.run + count_leading_zeros k (2 ^ k - 1 - x))) (longest_from 0 (bits_of k x))
    → ◌≡◌ {A = Tally} (record { errors = t.errors + ones x; run = r; longest = l }) (after (bits_of k x) t)
stepped k x t h p q =
    same (ap (λ (n : ℕ). t.errors + n) (sym (bits_ones k x h))) p
    (omega (arith, q, reached k t.run x h))

pub byte_through : (r x : ℕ) → x ≡ 255 → r + 8 ≡ ending_run r (bits_of 8 x)
byte_through r x e = sym (through 8 r x (omega arith) e)

pub byte-ending : (r x : ℕ) → x < 256 → (x ≡ 255 → ⊥) → count_trailing_zeros 8 (255 - x) ≡ ending_run r (bits_of 8 x)
byte-ending r x h n = sym (ending 8 r x h n)

-- no ones, in any number of bits
clean_bits : (k : ℕ) → bits_of k 0 ≡ replicate k 0
unfolding bits_of
clean_bits zero = refl
clean_bits (suc k) = ap₂ (λ (b : ℕ) (bs : List ℕ). b ∷ bs) (ap (λ (n : ℕ). n % 2) (zero-div (2 ^ k))) (clean_bits k)

clean_ones : (k : ℕ) → ones_of (replicate k 0) ≡ 0
unfolding ones_of
clean_ones zero = refl
clean_ones (suc k) = omega (arith, clean_ones k)

clean_ending : (k r : ℕ) → ending_run r (replicate (suc k) 0) ≡ 0
unfolding ending_run
clean_ending zero r = refl
clean_ending (suc k) r = clean_ending k 0

clean_longest : (k r : ℕ) → longest_from r (replicate k 0) ≡ r
unfolding longest_from
clean_longest zero r = refl
clean_longest (suc k) r = omega (arith, clean_longest k 0)

pub clean : (k : ℕ) (t : Tally) → t.run ≤ t.longest → (x : ℕ) → x ≡ 0
    → ◌≡◌ {A = Tally} (record { errors = t.errors; run = 0; longest = t.longest }) (after (bits_of (suc k) x) t)
clean k t h x e =
    subst (λ (bits : List ℕ). ◌≡◌ {A = Tally} (record { errors = t.errors; run = 0; longest = t.longest }) (after bits t))
    (sym (ap (bits_of (suc k)) e ∙ clean_bits (suc k)))
    (same (omega (arith, clean_ones (suc k))) (sym (clean_ending k t.run)) (omega (arith, clean_longest (suc k) t.run)))

-- a word of ones
pub word_through : (t : Tally) (x l : ℕ) → x ≡ 2 ^ 64 - 1 → l ≡ max t.longest (t.run + 64)
    → ◌≡◌ {A = Tally} (record { errors = t.errors + 64; run = t.run + 64; longest = l }) (after (bits_of 64 x) t)
word_through t x l e q =
    same (ap (λ (n : ℕ). t.errors + n) (sym (bits_ones 64 x (omega arith) ∙ ap ones e ∙ ones-ones 64)))
    (sym (through 64 t.run x (omega arith) e))
    (omega (arith, q, ends t.run (bits_of 64 x), through 64 t.run x (omega arith) e, longest_bound t.run (bits_of 64 x), bits_length 64 x))

-- any other word
pub word-mixed : (t : Tally) (x l : ℕ) → x < 2 ^ 64 → (x ≡ 2 ^ 64 - 1 → ⊥)
    → l ≡ max (max t.longest (t.run + count_leading_zeros 64 (2 ^ 64 - 1 - x))) (longest_from 0 (bits_of 64 x))
    → ◌≡◌ {A = Tally} (record { errors = t.errors + ones x; run = count_trailing_zeros 64 (2 ^ 64 - 1 - x); longest = l }) (after (bits_of 64 x) t)
word-mixed t x l h n q = stepped 64 x t h (sym (ending 64 t.run x h n)) q

-- ---- bits in a row

pub after-append : (s u : List ℕ) (t : Tally) → after (s ++ u) t ≡ after u (after s t)
after-append s u t =
    same (omega (arith, ones_append s u)) (ending-append t.run s u) (omega (arith, longest-append t.run s u))

-- no bits
pub after_none : (t : Tally) → t.run ≤ t.longest → t ≡ after [] t
unfolding ones_of ending_run longest_from
after_none t h = same (omega arith) refl (omega arith)

-- bits that are zeros and ones
pub room_after : (s : List ℕ) (n : ℕ) (t : Tally) → ones_of s ≤ length s → Room (length s + n) t → Room n (after s t)
room_after s n t f h = record {
  errors = omega (arith, f, h.errors);
  longest = omega (arith, h.longest, h.run, longest_bound t.run s);
  run = omega (arith, ends t.run s);
}
