use native.Mathlib.Omega.{arith}
use Rattle.word_runs.proofs.with_runs_inside.Goals as goal

pub returns-then-longer_runs-eq0 : goal.returns-then-longer_runs-eq0
returns-then-longer_runs-eq0 c = omega (arith, c.longer_runs.ensures c.if-longer_runs-eq0.true)

pub returns : goal.returns
returns c = omega (arith, c.max.ensures, c.longest_in_word.ensures)
