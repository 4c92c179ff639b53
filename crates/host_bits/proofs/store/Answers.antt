use Rattle.host_bits.proofs.Answers.{store_said}
use Rattle.host_bits.proofs.store.Goals as goal

pub returns : goal.returns
returns c = store_said c.args.words.now c.args.summary _ _ c.known.ensures c.unwrap_or.ensures
