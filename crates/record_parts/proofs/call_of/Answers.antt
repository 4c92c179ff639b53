use mathlib.Core.Path.{sym, ap}
use Rattle.record_parts.specs.Parts.{call_of}
use Rattle.record_parts.proofs.call_of.Goals as goal

pub returns-in-Sent : goal.returns-in-Sent
returns-in-Sent c = sym (ap call_of c.in-Sent.is)

pub returns-in-Accept : goal.returns-in-Accept
returns-in-Accept c = sym (ap call_of c.in-Accept.is)

pub returns-in-Observe : goal.returns-in-Observe
returns-in-Observe c = sym (ap call_of c.in-Observe.is)

pub returns-in-Advance : goal.returns-in-Advance
returns-in-Advance c = sym (ap call_of c.in-Advance.is)
