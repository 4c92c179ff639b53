use Rattle.host_call_words.proofs.Laws.{observe-listed}
use Rattle.host_call_words.proofs.observe_words.Goals as goal

pub returns : goal.returns
returns c = observe-listed c.args.o _ c.observation_words-told.ensures
