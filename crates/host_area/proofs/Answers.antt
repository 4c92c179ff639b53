-- What the proofs of the calls cite: each case of the answer below. Assumes nothing.
use Rattle.std.specs.Prelude.{Result, Ok, Err}
use Rattle.limits.specs.declared.Refusal.{Refusal}
use Rattle.limits.specs.Numbers.{number_of}
use Rattle.big_endian.specs.Fields.{Field}
use mathlib.Core.Path.{◌≡◌, ap, ◌∙◌}
use mathlib.Core.List.{List}
use Prim.Native.Nat.{ℕ}
use lib.ListN.{set}
use Rattle.host_numbers.specs.Numbers.{lower, upper}
use Rattle.host_observation.specs.Observation.{word}
use Rattle.record_parts.specs.Parts.{counters_flag, sender_count, received_count, transmitted_count}
use Rattle.call_types.specs.declared.CounterPoint.{CounterPoint}
use Rattle.area_read.specs.Read as read_call
use Rattle.area_write.specs.Write as write-call
use Rattle.area_fields.specs.declared.FollowUpItem.{FollowUpItem}
use Rattle.area_fields.specs.Fields.{counters_of, follow_up_of, Wrote, wrote, wrote_fields}
use Rattle.area_observation.specs.declared.Told.{Told}
use Rattle.area_observation.specs.Told.{told}
use Rattle.host_area.specs.Words.{sighted_flag, unknown_flag, sequence_of, timestamp_of, flags_with, told_words}
use Rattle.host_area.specs.Calls.{room_left, read_by, read_to, write_by, write_to, words_left, counters_by, counters_to, follow_up_by, follow_up_to, observation_by, observation_to, number_of_answer, bytes_left, fields_to}

module _ (bytes room after count : List ℕ) where
  read_done : (a : Result ℕ Refusal) → read_call.outcome a after ≡ read_call.read_into bytes room → read_by a after count ≡ read_to bytes room count
  unfolding read_to
  read_done a left = ap (λ (o : read_call.Outcome). read_by o.answer o.room count) left

  pub read-refused : (e : Refusal) (n : ℕ) → read_call.outcome (Err e) after ≡ read_call.read_into bytes room → n ≡ number_of e → room_left n after count ≡ read_to bytes room count
  read-refused e n left is = ap (λ (m : ℕ). room_left m after count) is ∙ read_done (Err e) left

  pub read-served : (k : ℕ) → read_call.outcome (Ok k) after ≡ read_call.read_into bytes room → room_left 0 after (set count 0 k) ≡ read_to bytes room count
  read-served k left = read_done (Ok k) left

module _ (items values room after length : List ℕ) where
  write_done : (a : Result ℕ Refusal) → write-call.outcome a after ≡ write-call.write_into items values room → write_by a after length ≡ write_to items values room length
  unfolding write_to
  write_done a left = ap (λ (o : write-call.Outcome). write_by o.answer o.room length) left

  pub write-refused : (e : Refusal) (n : ℕ) → write-call.outcome (Err e) after ≡ write-call.write_into items values room → n ≡ number_of e → room_left n after length ≡ write_to items values room length
  write-refused e n left is = ap (λ (m : ℕ). room_left m after length) is ∙ write_done (Err e) left

  pub write-served : (k : ℕ) → write-call.outcome (Ok k) after ≡ write-call.write_into items values room → room_left 0 after (set length 0 k) ≡ write_to items values room length
  write-served k left = write_done (Ok k) left

module _ (value words : List ℕ) where
  pub counters-refused : (e : Refusal) (n : ℕ) → Err e ≡ counters_of value → n ≡ number_of e → words_left n words ≡ counters_to value words
  unfolding counters_to
  counters-refused e n is told = ap (λ (m : ℕ). words_left m words) told ∙ ap (λ (c : Result CounterPoint Refusal). counters_by c words) is

  pub counters-served : (p : CounterPoint) → Ok p ≡ counters_of value → words_left 0 (set (set (set words 0 p.sender.0) 1 p.received.0) 2 p.transmitted.0) ≡ counters_to value words
  unfolding counters_to
  counters-served p is = ap (λ (c : Result CounterPoint Refusal). counters_by c words) is

  pub follow_up_refused : (e : Refusal) (n : ℕ) → Err e ≡ follow_up_of value → n ≡ number_of e → words_left n words ≡ follow_up_to value words
  unfolding follow_up_to
  follow_up_refused e n is told = ap (λ (m : ℕ). words_left m words) told ∙ ap (λ (c : Result FollowUpItem Refusal). follow_up_by c words) is

  pub follow_up_served : (f : FollowUpItem) → Ok f ≡ follow_up_of value → words_left 0 (set (set (set words 0 f.sequence) 1 f.timestamp) 2 f.mode) ≡ follow_up_to value words
  unfolding follow_up_to
  follow_up_served f is = ap (λ (c : Result FollowUpItem Refusal). follow_up_by c words) is

pub fields_done : (needed : ℕ) (fields : List Field) (bytes after : List ℕ) (a : Result (Unit {0}) Refusal) (n : ℕ) → wrote a after ≡ wrote_fields needed fields bytes → n ≡ number_of_answer a
    → bytes_left n after ≡ fields_to needed fields bytes
unfolding fields_to
fields_done needed fields bytes after a n left is = ap (λ (m : ℕ). bytes_left m after) is ∙ ap (λ (o : Wrote). bytes_left (number_of_answer o.answer) o.bytes) left

module _ (bytes words : List ℕ) where
  pub told-refused : (e : Refusal) (n : ℕ) → Err e ≡ told bytes → n ≡ number_of e → words_left n words ≡ observation_to bytes words
  unfolding observation_to
  told-refused e n is said = ap (λ (m : ℕ). words_left m words) said ∙ ap (λ (t : Result Told Refusal). observation_by t words) is

  pub told-served : (t : Told) (after : List ℕ) → Ok t ≡ told bytes → after ≡ told_words t words → words_left 0 after ≡ observation_to bytes words
  unfolding observation_to
  told-served t after is h = ap (words_left 0) h ∙ ap (λ (x : Result Told Refusal). observation_by x words) is

-- the seven stores
pub tell-said : (t : Told) (w : List ℕ) (stamp low high sender received transmitted sequence counters sighted unknown flags : ℕ)
    → stamp ≡ timestamp_of t.follow → low ≡ lower stamp → high ≡ upper stamp
    → sender ≡ sender_count t.counters → received ≡ received_count t.counters → transmitted ≡ transmitted_count t.counters → sequence ≡ sequence_of t.follow
    → counters ≡ counters_flag t.counters → sighted ≡ sighted_flag t.follow → unknown ≡ unknown_flag t.follow → flags ≡ flags_with (word w 21) counters sighted unknown
    → set (set (set (set (set (set (set w 10 low) 11 high) 15 sender) 16 received) 17 transmitted) 18 sequence) 21 flags ≡ told_words t w
tell-said t w stamp low high s r x q c f u g e1 e2 e3 e4 e5 e6 e7 e8 e9 ea eb =
    let l = e2 ∙ ap lower e1 in
    let h = e3 ∙ ap upper e1 in
    let k = eb ∙ ap (λ (n : ℕ). flags_with (word w 21) n f u) e8 ∙ ap (λ (n : ℕ). flags_with (word w 21) (counters_flag t.counters) n u) e9 ∙ ap (flags_with (word w 21) (counters_flag t.counters) (sighted_flag t.follow)) ea in
    λ i. set (set (set (set (set (set (set w 10 (l i)) 11 (h i)) 15 (e4 i)) 16 (e5 i)) 17 (e6 i)) 18 (e7 i)) 21 (k i)
