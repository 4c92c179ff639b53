use Rattle.host_bits.proofs.Answers.{fresh-said}
use Rattle.host_bits.proofs.ambrulicciu_bit_summary_fresh.Goals as goal

pub returns : goal.returns
returns c = fresh-said c.args.summary.now _ _ c.new.ensures c.store.ensures
