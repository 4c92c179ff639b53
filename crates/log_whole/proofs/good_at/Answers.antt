use native.Mathlib.Omega.{arith}
use lib.ListN.{take, drop, length-take, length-drop}
use Rattle.log_whole.proofs.Laws.{good_of_read}
use Rattle.log_whole.proofs.good_at.Goals as goal

pub returns : goal.returns
returns c = good_of_read (take 96 (drop c.args.at c.args.log.now)) c.read_at.result c.is_ok.result (simp (length-take, length-drop) (omega arith)) c.read_at.ensures c.is_ok.ensures.value
