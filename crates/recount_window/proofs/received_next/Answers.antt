use borrow.Author.Tests.{lt-ltb, le-ltb}
use Rattle.recount_window.proofs.received_next.Goals as goal

pub returns-then-highest-transmit : goal.returns-then-highest-transmit
returns-then-highest-transmit c = rw (lt-ltb _ _ c.if-highest-transmit.true) c.larger.ensures

pub returns : goal.returns
returns c = rw (le-ltb _ _ c.if-highest-transmit.false)
