use Rattle.host_bits.proofs.Answers.{load_said}
use Rattle.host_bits.proofs.load.Goals as goal

pub returns : goal.returns
returns c = load_said c.args.words.now _ _ c.low.ensures c.burst_from-longest.ensures
