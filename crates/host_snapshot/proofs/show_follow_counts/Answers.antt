use Rattle.host_snapshot.proofs.show_follow_counts.Goals as goal

pub returns : goal.returns
returns c = rw (c.place_follow_counts.ensures, c.follow_counts_of-counts.ensures)
