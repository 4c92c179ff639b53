use Rattle.host_directions.proofs.Answers.{sum_said}
use Rattle.host_directions.proofs.load_sum.Goals as goal

pub returns : goal.returns
returns c = sum_said c.args.words.now c.args.reverse _ c.words_start-at.ensures.0
