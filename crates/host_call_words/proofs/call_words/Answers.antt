use mathlib.Core.Path.{sym, ap, ◌∙◌}
use Rattle.host_call_words.specs.Words.{call_words}
use Rattle.host_call_words.proofs.call_words.Goals as goal

pub returns-in-Sent : goal.returns-in-Sent
unfolding call_words
returns-in-Sent c = c.sent_words.ensures ∙ sym (ap call_words c.in-Sent.is)

pub returns-in-Accept : goal.returns-in-Accept
unfolding call_words
returns-in-Accept c = c.accept_words.ensures ∙ sym (ap call_words c.in-Accept.is)

pub returns-in-Observe : goal.returns-in-Observe
unfolding call_words
returns-in-Observe c = c.observe_words.ensures ∙ sym (ap call_words c.in-Observe.is)

pub returns-in-Advance : goal.returns-in-Advance
unfolding call_words
returns-in-Advance c = c.advance_words.ensures ∙ sym (ap call_words c.in-Advance.is)

pub returns-in-Idle : goal.returns-in-Idle
unfolding call_words
returns-in-Idle c = c.idle_words.ensures ∙ sym (ap call_words c.in-Idle.is)
