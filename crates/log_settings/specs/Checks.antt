-- Why no record of a log is played (document 01, 'Log and program'), or its settings. Assumes nothing.
use Rattle.std.specs.Prelude.{Bool, true, false, ◌&&◌, ℕ, eqb, Err, Ok, Result}
use Rattle.limits.specs.Limits.{capacity}
use Rattle.limits.specs.declared.Refusal.{Refusal}
use Rattle.limits.specs.declared.Refusal.TheVariants as refusal
use Rattle.log_whole.specs.declared.Settings.{Settings}
use Rattle.log_whole.specs.declared.Fault.{Fault}
use Rattle.log_whole.specs.Logs.{refusal_of}
use Rattle.report.specs.Report.{report_room}

-- "9 above 65,536 bytes, 7 bad trailer, 8 bad record (first, from 0); tested in that order before any record is played"
abbrev pub checked_of : Result Settings Fault → Result Settings Refusal
checked_of (Err f) = Err (refusal_of f)
checked_of (Ok s) = Ok s

-- before these, 5 where a room has another size
abbrev pub checked_by : Bool → Result Settings Fault → Result Settings Refusal
checked_by true l = checked_of l
checked_by false l = Err refusal.WrongRoom

-- what is played: no record of a log that is refused
abbrev pub settings_by : Result Settings Refusal → Settings
settings_by (Err r) = record { copies = 0; threshold = 0; timeout = 0; count = 0; start = 0 }
settings_by (Ok s) = s

-- every room has its size
abbrev pub rooms_fit : ℕ → ℕ → ℕ → ℕ → ℕ → ℕ → ℕ → Bool
rooms_fit queue keys slots probes offsets links buffer =
    eqb queue capacity && eqb keys capacity && eqb slots capacity && eqb probes capacity && eqb offsets capacity && eqb links capacity && eqb buffer report_room
