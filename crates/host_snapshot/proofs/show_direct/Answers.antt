use Rattle.host_snapshot.proofs.show_direct.Goals as goal

pub returns : goal.returns
returns c = rw (c.place_direct.ensures, c.summary_of.ensures, c.direct_of-direct.ensures)
