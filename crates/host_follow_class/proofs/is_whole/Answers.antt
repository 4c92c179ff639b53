use Rattle.host_follow_class.proofs.Laws.{has_all_lem}
use Rattle.host_follow_class.proofs.is_whole.Goals as goal

pub returns : goal.returns
returns c = has_all_lem c.args.word c.args.slot _ _ _ _ c.in-Some.is c.in-Some-t4.is c.in-Some-quality.is
