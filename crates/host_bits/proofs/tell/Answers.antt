use Rattle.host_bits.proofs.Answers.{sample-said}
use Rattle.host_bits.proofs.tell.Goals as goal

pub returns-in-Sampled : goal.returns-in-Sampled
returns-in-Sampled c = sample-said c.args.answer.now _ _ _ _ c.in-Sampled.is c.known.ensures c.unwrap_or.ensures
