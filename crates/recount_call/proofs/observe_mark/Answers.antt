use mathlib.Core.Path.{sym, ◌∙◌}
use borrow.Author.Tests.{not-true, not-false}
use Rattle.recount_call.proofs.Laws.{out_of_range, awaited, not_awaited}
use Rattle.recount_call.proofs.observe_mark.Goals as goal

pub returns-then-not-in_range : goal.returns-then-not-in_range
returns-then-not-in_range c = out_of_range _ _ (sym c.in_range.ensures ∙ c.if-not-in_range.true)

pub returns-then-awaits_observe : goal.returns-then-awaits_observe
returns-then-awaits_observe c = awaited _ _ (sym c.in_range.ensures ∙ c.if-not-in_range.false) (sym c.awaits_observe.ensures ∙ c.if-awaits_observe.true)

pub returns : goal.returns
returns c = not_awaited _ _ (sym c.in_range.ensures ∙ c.if-not-in_range.false) (sym c.awaits_observe.ensures ∙ c.if-awaits_observe.false)
