use mathlib.Core.Path.{ap, sym, ◌∙◌}
use Rattle.host_calls.specs.Calls.{accepted_words}
use Rattle.host_calls.proofs.accepted_words.Goals as goal

pub returns-in-Unique : goal.returns-in-Unique
returns-in-Unique c = c.ordinal_words.ensures ∙ sym (ap accepted_words c.in-Unique.is)
