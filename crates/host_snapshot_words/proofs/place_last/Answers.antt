use Rattle.host_snapshot_words.specs.Words.{estimate_words}
use Rattle.host_snapshot_words.proofs.place_last.Goals as goal

pub returns-in-None : goal.returns-in-None
unfolding estimate_words
returns-in-None c = rw (c.place.ensures, c.in-None.is)

pub returns-in-Some : goal.returns-in-Some
returns-in-Some c = rw (c.place_estimate.ensures, c.in-Some.is)
