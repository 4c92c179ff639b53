use Rattle.probe_ring.specs.Row.{words_of}
use Rattle.probe_ring.proofs.HeldProbe.words.Goals as goal

pub returns : goal.returns
unfolding words_of
returns c = rw (c.wide.ensures.0, c.wide_count.ensures.0, c.known_of.ensures.0, c.number_of.ensures.0, c.wide-2.ensures.0)
