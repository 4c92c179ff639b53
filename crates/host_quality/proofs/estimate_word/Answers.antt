use native.Mathlib.Omega.{arith}
use Rattle.host_quality.proofs.Back.{estimate-flags}
use Rattle.host_quality.proofs.estimate_word.Goals as goal

pub returns : goal.returns
returns c = (
  estimate-flags c.args.estimate _ _ _ _ _ c.flag.ensures.0 c.is_ptp.ensures c.flag-2.ensures.0 c.is_known.ensures c.flag-3.ensures.0,
  omega arith,
  omega arith,
)
