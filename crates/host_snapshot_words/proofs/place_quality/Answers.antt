use Rattle.host_snapshot_words.proofs.Groups.{quality_as}
use Rattle.host_snapshot_words.proofs.place_quality.Goals as goal

pub returns : goal.returns
returns c = rw (c.place_largest.ensures, c.place_last-2.ensures, c.place_last.ensures, c.place_quality_counts.ensures) (quality_as c.args.at c.args.quality c.args.room.now)
