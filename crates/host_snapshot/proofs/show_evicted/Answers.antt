use Rattle.host_snapshot.proofs.show_evicted.Goals as goal

pub returns : goal.returns
returns c = rw (c.place_evicted.ensures, c.replies_of-replies.ensures)
