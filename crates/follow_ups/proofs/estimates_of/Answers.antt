use Rattle.std.specs.Prelude.{Some}
use mathlib.Core.Path.{sym, ap, ◌∙◌}
use Rattle.follow_ups.specs.Followed.{estimates_of}
use Rattle.follow_ups.proofs.estimates_of.Goals as goal

pub returns-in-Some : goal.returns-in-Some
returns-in-Some c = (λ i. Some (c.from_wire-first.ensures i, c.from_wire-second.ensures i)) ∙ sym (ap estimates_of c.in-Some.is)
