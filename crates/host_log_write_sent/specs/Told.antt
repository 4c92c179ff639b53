-- What a host's numbers have written in a log for a `sent`: an entry. What is written of it is log_record's `written_to`: its record over 96 bytes, 5 for another number of
-- bytes, and a refusal changes nothing. Assumes nothing.
use Rattle.std.specs.Prelude.{ℕ}
use Rattle.record_parts.specs.declared.Entry.{Entry}
use Rattle.record_parts.specs.declared.Entry.TheVariants as entry

-- "0 sent (4 sequence, 8 ordinal, 12 time, 20 tag)", and its train at 28 (document 02, Q-3)
abbrev pub sent_told : (sequence ordinal train time tag : ℕ) → Entry
sent_told sequence ordinal train time tag = entry.Sent (record { sequence = sequence; ordinal = ordinal; train = train; packet = record { time = time; tag = tag } })
