use Rattle.host_snapshot_words.proofs.Groups.{direct_as}
use Rattle.host_snapshot_words.proofs.place_direct.Goals as goal

pub returns : goal.returns
returns c = rw (c.place_spans.ensures, c.place_point-2.ensures, c.place_point.ensures, c.place_direct_counts.ensures) (direct_as c.args.summary c.args.room.now)
