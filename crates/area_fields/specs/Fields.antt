-- The values of types 5 and 7 (RFC 8972, sections 4.5 and 4.7), the most significant byte first. Assumes nothing.
use Rattle.std.specs.Prelude.{cond, List, [], ◌∷◌, ℕ, ◌+◌, eqb, ltb, length, Result, Ok, Err}
use Rattle.limits.specs.declared.Refusal.{Refusal}
use Rattle.limits.specs.declared.Refusal.TheVariants as refusal
use Rattle.big_endian.specs.Numbers.{number_at}
use Rattle.big_endian.specs.Fields.{Field, byte, bytes4, bytes8, written}
use Rattle.call_types.specs.declared.CounterPoint.{CounterPoint}
use Rattle.area_fields.specs.declared.FollowUpItem.{FollowUpItem}

-- Direct Measurement: S_TxC, R_RxC, R_TxC, four bytes each
abbrev pub counters_at : List ℕ → ℕ → CounterPoint
counters_at bytes at = record { sender = record { 0 = number_at 2 bytes at }; received = record { 0 = number_at 2 bytes (at + 4) }; transmitted = record { 0 = number_at 2 bytes (at + 8) } }

-- Follow-Up Telemetry: sequence, timestamp, mode byte; the three reserved bytes behind it are skipped
abbrev pub follow_up_at : List ℕ → ℕ → FollowUpItem
follow_up_at bytes at = record { sequence = number_at 2 bytes at; timestamp = number_at 3 bytes (at + 4); mode = number_at 0 bytes (at + 12) }

-- a value of 12 bytes has the three counters; another length is refused
unfoldable pub counters_of : List ℕ → Result CounterPoint Refusal
counters_of value = cond (eqb (length value) 12) (Ok (counters_at value 0)) (Err refusal.WrongLength)

-- a value of 16 bytes has the follow-up's fields; another length is refused
unfoldable pub follow_up_of : List ℕ → Result FollowUpItem Refusal
follow_up_of value = cond (eqb (length value) 16) (Ok (follow_up_at value 0)) (Err refusal.WrongLength)

-- what is written of three counters
abbrev pub counters_table : CounterPoint → List Field
counters_table p = bytes4 0 p.sender.0 ∷ bytes4 4 p.received.0 ∷ bytes4 8 p.transmitted.0 ∷ []

-- what is written of a follow-up: the reserved bytes are 0
abbrev pub follow_up_table : FollowUpItem → List Field
follow_up_table f = bytes4 0 f.sequence ∷ bytes8 4 f.timestamp ∷ byte 12 f.mode ∷ byte 13 0 ∷ byte 14 0 ∷ byte 15 0 ∷ []

-- what writing comes to: its answer, and the lent bytes
pub record Wrote : Type 0 where
  pub answer : Result (Unit {0}) Refusal
  pub bytes : List ℕ

-- of this answer and these bytes
abbrev pub wrote : Result (Unit {0}) Refusal → List ℕ → Wrote
wrote a bytes = record { answer = a; bytes = bytes }

-- refused when the lent bytes are fewer than needed; else the fields stand at their start, and the rest stays
unfoldable pub wrote_fields : (needed : ℕ) → List Field → List ℕ → Wrote
wrote_fields needed fields bytes = cond (ltb (length bytes) needed) (wrote (Err refusal.ShortRoom) bytes) (wrote (Ok tt) (written fields bytes))
