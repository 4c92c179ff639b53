use Rattle.host_snapshot.proofs.show_quality.Goals as goal

pub returns : goal.returns
returns c = rw (c.place_quality.ensures, c.quality_of-quality.ensures)
