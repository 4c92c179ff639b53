-- An `idle` of a log's record on the monitor. Assumes nothing.
use Rattle.std.specs.Prelude.{Bool, true, false, eqb}
use Rattle.limits.specs.Limits.{capacity}
use Rattle.monitor.specs.declared.Monitor.{Monitor}
use Rattle.monitor.specs.Refusals.{refusal_of}
use Rattle.link_steps.specs.Steps.{idle_by}

-- `idle`, where it is one; a refused one leaves the monitor as it was
abbrev pub idled_if : Bool → Monitor → Monitor
idled_if true m = idle_by (eqb (refusal_of m capacity) 0) m
idled_if false m = m
