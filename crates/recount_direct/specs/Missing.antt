-- What is missing in a window, as the report shows it. Assumes nothing.
use Rattle.std.specs.Prelude.{ℕ, Some, None, Option}
use Rattle.history.specs.DirectLoss.{Spans}
use Rattle.report.specs.declared.figures.Missing.{Missing}
use Rattle.recount_class.specs.Reached.{no_missing}

-- a number of packets, where it is shown
abbrev pub value_of : Option ℕ → Option ℕ
value_of None = None
value_of (Some n) = Some n

-- forward and reverse missing of a window's figures
abbrev pub missing_of : Option Spans → Missing
missing_of None = no_missing
missing_of (Some s) = record { forward = value_of s.forward_missing; reverse = Some s.reverse-missing }
