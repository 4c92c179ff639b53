use Rattle.std.proofs.Common.{sym, ◌∙◌, arith, below_more}
use Rattle.sample_passes.proofs.falls.Goals as goal
use Rattle.sample_passes.proofs.falls.Goals.{then-key, else-key}

pub loop-j-preserved : goal.loop-j-preserved
loop-j-preserved c = (
  omega arith,
  omega arith,
  elim c.if-key.branch [
    | then-key w ↦ λ e. absurd (omega (arith, w.n-is, e))
    | else-key w ↦ λ e. below_more _ _ (c.loop-j.invariant.2 (sym w.n-is ∙ e)) (omega (arith, w.if-key.false, c.key-in-loop-j.ensures, c.key.ensures))
  ],
)

pub returns : goal.returns
returns c = λ e k m. c.loop-j.invariant.2 e k (omega (arith, m))
