-- A slot is written back into its row with its correction: the row's flag and count stay, and its words say the corrected slot.
-- Assumes nothing.
use Rattle.std.specs.Prelude.{Option, Some, None}
use Rattle.correlation.specs.declared.ReplyRecord.{ReplyRecord}
use mathlib.Core.Path.{◌≡◌, refl, ◌∙◌}
use mathlib.Core.Bool.{Bool, true, false}
use mathlib.Core.List.{List}
use Prim.Native.Nat.{ℕ, ◌+◌, ◌*◌, ◌/◌, ◌%◌, ◌<◌}
use native.Mathlib.Omega.{arith}
use lib.Dec.{eqb}
use lib.ListN.{length, get_or}
use Rattle.chains.proofs.Tests.{eq_true, eq_false}
use Rattle.correlation.specs.declared.Slot.{Slot}
use Rattle.correlation.specs.Words.{bit, slot_flags, record_flags, sender_wire, reflector_wire, joined, words_by, words_of, slot_of}
use Rattle.correlation.specs.Slots.{corrected_slot}
use Rattle.correlation.proofs.Back.{RecordFits, words_back}
use Rattle.key_ring.specs.Rows.{count_of, is_observed}
use Rattle.key_ring.proofs.Meaning.{slot_count, slot_observed}

-- the row's words with the slot corrected
abbrev pub correct_words : List ℕ → List ℕ
correct_words words = words_of (corrected_slot (slot_of words))

bit_below : (b : Bool) → bit b < 2
bit_below true = omega arith
bit_below false = omega arith

is_bit : (b : Bool) (n : ℕ) → n ≡ bit b → eqb n 1 ≡ b
is_bit true n h = eq_true n 1 h
is_bit false n h = eq_false n 1 (λ e. omega (arith, e, h))

module _ (c a b k s r : ℕ) (hc : c < 65536) (ha : a < 2) where
  count_at : joined c (a + 2 * b) k s r % 65536 ≡ c
  count_at = omega arith

  observed-at : joined c (a + 2 * b) k s r / 65536 % 2 ≡ a
  observed-at = omega arith

pub count-below : (words : List ℕ) → (slot_of words).count < 65536
unfolding slot_of
count-below words = small (get_or words 0 0)
  where
    small : (w : ℕ) → w % 65536 < 65536
    small w = omega arith

words_count : (n : ℕ) (o d : Bool) (u : Option ReplyRecord) → n < 65536 → count_of (words_by n (bit o + 2 * bit d) u) ≡ n
words_count n o d None l = count_at n (bit o) (bit d) 0 0 0 l (bit_below o)
words_count n o d (Some r) l = count_at n (bit o) (bit d) (record_flags r) (sender_wire r.quality) (reflector_wire r.quality) l (bit_below o)

words-observed : (n : ℕ) (o d : Bool) (u : Option ReplyRecord) → n < 65536 → is_observed (words_by n (bit o + 2 * bit d) u) ≡ o
words-observed n o d None l = is_bit o _ (observed-at n (bit o) (bit d) 0 0 0 l (bit_below o))
words-observed n o d (Some r) l = is_bit o _ (observed-at n (bit o) (bit d) (record_flags r) (sender_wire r.quality) (reflector_wire r.quality) l (bit_below o))

words_three : (n k : ℕ) (u : Option ReplyRecord) → length (words_by n k u) ≡ 3
words_three n k None = refl
words_three n k (Some r) = refl

pub three : (s : Slot) → length (words_of s) ≡ 3
unfolding words_of
three s = words_three s.count (slot_flags s) s.unique

pub correct-observed : (words : List ℕ) → is_observed (correct_words words) ≡ is_observed words
unfolding words_of
correct-observed words =
    words-observed (slot_of words).count (slot_of words).observed true (slot_of words).unique (count-below words) ∙ slot_observed words

pub correct-count : (words : List ℕ) → count_of (correct_words words) ≡ count_of words
unfolding words_of
correct-count words = words_count (slot_of words).count (slot_of words).observed true (slot_of words).unique (count-below words) ∙ slot_count words

-- the words of a slot that fits say it
pub correct_says : (words : List ℕ) → RecordFits (slot_of words).unique → slot_of (correct_words words) ≡ corrected_slot (slot_of words)
correct_says words f = words_back (corrected_slot (slot_of words)) (count-below words) f
