use mathlib.Core.Path.{sym, ap}
use Rattle.report.specs.Lines.{shown_of}
use Rattle.report.proofs.values.shown_of.Goals as goal

pub returns-in-Some : goal.returns-in-Some
returns-in-Some c = sym (ap shown_of c.in-Some.is)
