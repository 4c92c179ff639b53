use Rattle.recount_seen.specs.Seen.{seen_at}
use Rattle.recount_seen.proofs.Laws.{no_mark}
use Rattle.recount_seen.proofs.Marked.seen_at.Goals as goal

pub returns-in_default : goal.returns-in_default
unfolding seen_at
returns-in_default c = no_mark _ _ c.in_default.ensures.1

pub returns-in-Some : goal.returns-in-Some
unfolding seen_at
returns-in-Some c = rw (← c.in-Ok.ensures, ← c.in-Some.ensures) c.seen_by.ensures

pub returns-in-None : goal.returns-in-None
unfolding seen_at
returns-in-None c = rw (← c.in-None.ensures)
