use mathlib.Core.Path.{refl, sym, ◌∙◌}
use Rattle.recount_call.proofs.Laws.{known_key, known_probe, no_packet, has-packet}
use Rattle.recount_call.proofs.reply_mark.Goals as goal

pub returns-then-was_accepted : goal.returns-then-was_accepted
returns-then-was_accepted c = known_key _ _ (sym c.was_accepted.ensures ∙ c.if-was_accepted.true)

pub returns-then-was_remembered : goal.returns-then-was_remembered
returns-then-was_remembered c = known_probe _ _ (sym c.was_accepted.ensures ∙ c.if-was_accepted.false) (sym c.was_remembered.ensures ∙ c.if-was_remembered.true)

pub returns-in-None : goal.returns-in-None
returns-in-None c = no_packet _ _ (sym c.was_accepted.ensures ∙ c.if-was_accepted.false) (sym c.was_remembered.ensures ∙ c.if-was_remembered.false) _ refl c.in-None.is

pub returns-in-Some : goal.returns-in-Some
returns-in-Some c = has-packet _ _ (sym c.was_accepted.ensures ∙ c.if-was_accepted.false) (sym c.was_remembered.ensures ∙ c.if-was_remembered.false) _ _ refl c.in-Some.is
