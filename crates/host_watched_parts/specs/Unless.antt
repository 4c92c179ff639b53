-- What a call with a monitor leaves of the monitor's words. Assumes nothing.
use Rattle.std.specs.Prelude.{List, ℕ, zero, suc}
use Rattle.monitor.specs.declared.Monitor.{Monitor}
use Rattle.host_monitor_words.specs.Words.{words_of}

-- by the call's number: those of the next monitor, or as they were where the call was refused
abbrev pub stored_unless : ℕ → List ℕ → Monitor → List ℕ
stored_unless zero words next = words_of next
stored_unless (suc n) words next = words
