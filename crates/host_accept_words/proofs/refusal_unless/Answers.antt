use mathlib.Core.Path.{sym}
use Rattle.host_accept_words.proofs.refusal_unless.Goals as goal

pub returns-then-sure : goal.returns-then-sure
returns-then-sure c = sym (c.requires c.if-sure.true)
