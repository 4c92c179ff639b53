use Rattle.std.proofs.Common.{arith}
use Rattle.sample_guess.proofs.chosen.Goals as goal

pub loop-i-preserved : goal.loop-i-preserved
loop-i-preserved c = (omega arith, omega arith)
