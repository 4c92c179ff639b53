-- The rows of words beside the keys keep their width through an observation, so the keys' rooms stay sound.
-- Assumes nothing.
use Rattle.correlation.specs.Class.{Class}
use Rattle.std.specs.Prelude.{Option, Some, None, Ok, Err}
use Rattle.call_types.specs.declared.FollowUpTelemetry.{FollowUpTelemetry}
use Rattle.correlation.specs.declared.ReplyRecord.{ReplyRecord}
use mathlib.Core.Path.{◌≡◌, refl}
use mathlib.Core.List.{List}
use Prim.Native.Nat.{ℕ}
use lib.ListN.{length}
use Rattle.call_types.specs.declared.ReplyKey.{ReplyKey}
use Rattle.call_types.specs.declared.ReplyObservation.{ReplyObservation}
use Rattle.chains.specs.declared.Ring.{Ring}
use Rattle.correlation.specs.declared.Slot.{Slot}
use Rattle.correlation.specs.declared.follow.Miss.TheVariants as miss
use Rattle.correlation.specs.Words.{slot_of, words_by, words_of, slot_flags}
use Rattle.correlation.specs.Slots.{raised, corrected_slot}
use Rattle.follow_ups.specs.declared.FollowUps.{FollowUps}
use Rattle.key_ring.specs.Table.{table_of, words_at, newest_slot, Sound}
use Rattle.key_ring.proofs.Tables.{store_sound}
use Rattle.ledger_steps.specs.Observe.{corrected_at, class_at, own_words, follow_by, follow_in, holder_of, own_in}

by_three : (count own : ℕ) (u : Option ReplyRecord) → length (words_by count own u) ≡ 3
by_three count own None = refl
by_three count own (Some r) = refl

-- a slot has three words
pub words_three : (s : Slot) → length (words_of s) ≡ 3
unfolding words_of
words_three s = by_three s.count (slot_flags s) s.unique

module _ (N : ℕ) (by_key : ReplyKey → ℕ) (by_number : ℕ → ℕ) (keys slots links : List (List ℕ)) (ring : Ring)
    (s : Sound N by_key by_number (table_of keys slots links ring)) where
  corrected_sound : (x : Class) (p : ℕ) → Sound N by_key by_number (table_of keys (corrected_at x N slots p) links ring)
  corrected_sound (Err why) p = s
  corrected_sound (Ok m) p =
      store_sound N by_key by_number (table_of keys slots links ring) s p (words_of (corrected_slot (slot_of (words_at N slots p)))) (words_three (corrected_slot (slot_of (words_at N slots p))))

  by_sound : (x : Option FollowUpTelemetry) (fs : FollowUps) (o : ReplyObservation) → Sound N by_key by_number (table_of keys (follow_by N by_key by_number x fs ring keys slots links o).slots links ring)
  by_sound None fs o = s
  by_sound (Some f) fs o =
      corrected_sound (class_at N slots (holder_of N by_key by_number ring keys slots links f.sequence) o.key.reflector o.offset f) (holder_of N by_key by_number ring keys slots links f.sequence)

  -- a follow-up corrects at most one slot
  pub follow_sound : (fs : FollowUps) (o : ReplyObservation) → Sound N by_key by_number (table_of keys (follow_in N by_key by_number fs ring keys slots links o).slots links ring)
  unfolding follow_in
  follow_sound fs o = by_sound o.follow fs o

  -- the own slot goes into one row
  pub own_sound : (copies : ℕ) (o : ReplyObservation) → Sound N by_key by_number (table_of keys (own_in N by_key by_number copies ring keys slots links o) links ring)
  unfolding own_in raised
  own_sound copies o =
      store_sound N by_key by_number (table_of keys slots links ring) s (newest_slot N ring) (own_words N copies slots (holder_of N by_key by_number ring keys slots links o.key.reflector) o)
      (words_three _)
