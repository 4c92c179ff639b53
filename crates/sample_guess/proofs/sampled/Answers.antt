use Rattle.std.proofs.Common.{arith, length-set}
use Rattle.sample_guess.proofs.sampled.Goals as goal
use Rattle.sample_guess.proofs.sampled.Goals.{else-k-low, then-k-low}

pub loop-i-preserved : goal.loop-i-preserved
loop-i-preserved c =
    let l = c.loop-i in (
      omega arith,
      omega arith,
      elim c.if-k-low.branch [ then-k-low w ↦ omega (arith, w.n-is, l.invariant.2) | else-k-low w ↦ omega (arith, w.n-is, l.invariant.2) ],
      omega arith,
      elim c.if-k-low.branch [ then-k-low w ↦ rw (w.keys-is, length-set) l.invariant.4 | else-k-low w ↦ rw w.keys-is l.invariant.4 ],
    )
