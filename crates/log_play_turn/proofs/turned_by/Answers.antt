use Rattle.log_play_turn.proofs.Laws.{one_more}
use Rattle.log_play_turn.proofs.turned_by.Goals as goal

pub returns : goal.returns
returns c = one_more _ _ c.if-refused-eq0.false
