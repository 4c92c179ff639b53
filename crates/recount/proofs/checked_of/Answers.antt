use Rattle.std.specs.Prelude.{Err}
use mathlib.Core.Path.{sym, ap, ◌∙◌}
use Rattle.recount.specs.Recount.{checked_of}
use Rattle.recount.proofs.checked_of.Goals as goal

pub returns-in-Ok : goal.returns-in-Ok
returns-in-Ok c = sym (ap checked_of c.in-Ok.is)

pub returns-in-Err : goal.returns-in-Err
returns-in-Err c = ap Err c.from.ensures ∙ sym (ap checked_of c.in-Err.is)
