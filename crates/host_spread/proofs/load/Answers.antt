use Rattle.host_spread.proofs.Answers.{load_said}
use Rattle.host_spread.proofs.load.Goals as goal

pub returns : goal.returns
returns c = load_said c.args.words.now _ _ c.float_of-mean.ensures c.float_of-m2.ensures
