use Rattle.host_snapshot_words.specs.Words.{point_words}
use Rattle.host_snapshot_words.proofs.place_point.Goals as goal

pub returns-in-None : goal.returns-in-None
unfolding point_words
returns-in-None c = rw (c.place.ensures, c.in-None.is)

pub returns-in-Some : goal.returns-in-Some
unfolding point_words
returns-in-Some c = rw (c.place-in-Some.ensures, c.in-Some.is)
