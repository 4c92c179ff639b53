use Rattle.host_snapshot_words.specs.Words.{estimate_words}
use Rattle.host_snapshot_words.proofs.place_estimate.Goals as goal

pub returns : goal.returns
unfolding estimate_words
returns c = rw (c.place.ensures, c.error_received.ensures, c.error_bits.ensures, c.error_known.ensures, c.flag-2.ensures.0, c.is_ptp.ensures, c.flag.ensures.0)
