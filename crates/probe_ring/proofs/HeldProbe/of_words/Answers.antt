use Rattle.probe_ring.specs.Row.{held_probe_of}
use Rattle.probe_ring.proofs.HeldProbe.of_words.Goals as goal

pub returns : goal.returns
unfolding held_probe_of
returns c = rw (c.low-sequence.ensures, c.count_of-replies.ensures, c.ordinal_of-ordinal.ensures, c.low.ensures, c.low-train.ensures)
