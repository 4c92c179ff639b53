-- What a row's words say as a correlation slot: lowering the row lowers the slot, and no slot has count 0.
-- Assumes nothing.
use mathlib.Core.Path.{◌≡◌, refl}
use mathlib.Core.List.{List, [], ◌∷◌}
use Prim.Native.Nat.{ℕ}
use Rattle.correlation.specs.Words.{slot_of}
use Rattle.correlation.specs.Slots.{lowered as lowered_slot}
use Rattle.correlation.proofs.Lowers.{lower_word_lem}
use Rattle.key_ring.specs.Rows.{no_slot, count_of, is_observed, lowered}

-- the count and the flag are those of the slot
pub slot_count : (words : List ℕ) → (slot_of words).count ≡ count_of words
unfolding slot_of
slot_count words = refl

pub slot_observed : (words : List ℕ) → (slot_of words).observed ≡ is_observed words
unfolding slot_of
slot_observed words = refl

-- no slot is one of count 0
pub no_slot_lem : (slot_of no_slot).count ≡ 0
unfolding slot_of
no_slot_lem = refl

-- Lowering the row lowers the slot, and the rest of the slot stays.
pub slot_lowered : (words : List ℕ) → slot_of (lowered words) ≡ lowered_slot (slot_of words)
unfolding slot_of
slot_lowered [] = lower_word_lem 0 0 0
slot_lowered (w ∷ []) = lower_word_lem w 0 0
slot_lowered (w ∷ t ∷ []) = lower_word_lem w t 0
slot_lowered (w ∷ t ∷ r ∷ ws) = lower_word_lem w t r
