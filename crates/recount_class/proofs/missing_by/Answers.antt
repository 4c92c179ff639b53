use borrow.Author.Tests.{lt-ltb, le-ltb, le-leb, lt-leb}
use Rattle.recount_class.proofs.missing_by.Goals as goal

pub returns-then-r-lt2 : goal.returns-then-r-lt2
returns-then-r-lt2 c = rw (lt-ltb _ _ c.if-r-lt2.true)

pub returns-then-r : goal.returns-then-r
returns-then-r c = rw (le-ltb _ _ c.if-r-lt2.false, le-leb _ _ c.if-r.true)

pub returns : goal.returns
returns c = rw (le-ltb _ _ c.if-r-lt2.false, lt-leb _ _ c.if-r.false)
