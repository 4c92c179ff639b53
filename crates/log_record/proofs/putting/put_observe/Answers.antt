use Rattle.log_record.proofs.putting.put_observe.Goals as goal

pub returns : goal.returns
returns c = rw (c.put_quality.ensures, c.put_follow.ensures, c.put_counts.ensures, c.put_times.ensures, c.put_key.ensures)
