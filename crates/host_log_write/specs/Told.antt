-- What a host's numbers have written in a log: a entry. What is written of it is log_record's `written_to`: its record over 96 bytes, 5 for another number of
-- bytes, and a refusal changes nothing. Assumes nothing.
use Rattle.std.specs.Prelude.{List, ℕ, None}
use Rattle.record_parts.specs.declared.Entry.{Entry}
use Rattle.record_parts.specs.declared.Entry.TheVariants as entry
use Rattle.record_parts.specs.Parts.{pending_by}
use Rattle.host_numbers.specs.Numbers.{is_set}
use Rattle.host_observation.specs.Observation.{observation_at}

-- "1 accept (4 sender, 8 reflector, 12 T3; flag 1 pending: 20 time, 28 tag)"
abbrev pub accept_told : (sender reflector t3 pending time tag : ℕ) → Entry
accept_told sender reflector t3 pending time tag =
    entry.Accept (record { key = record { sender = sender; reflector = reflector; t3 = t3 }; pending = pending_by (is_set pending) time tag })

-- "2 observe": the observation that the lent words say, without the converted T3 of flag 16
abbrev pub observe_told : List ℕ → Entry
observe_told words = entry.Observe (observation_at words) None

-- "3 advance (4 now). 4 idle."
abbrev pub advance_told : ℕ → Entry
advance_told time = entry.Advance time

-- kind 4 has no fields
abbrev pub idle_told : Entry
idle_told = entry.Idle
