use Rattle.host_clock_quality_words.proofs.Answers.{load_said}
use Rattle.host_clock_quality_words.proofs.load.Goals as goal

pub returns : goal.returns
returns c = load_said c.args.words.now _ _ _ c.largest_of.ensures c.last_of.ensures c.last_of-2.ensures
