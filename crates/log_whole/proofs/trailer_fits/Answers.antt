use mathlib.Core.Bool.{◌&&◌}
use Prim.Native.Nat.{◌+◌, ◌*◌}
use lib.Dec.{eqb, leb}
use lib.ListN.{length}
use Rattle.log_whole.specs.Logs.{mark}
use Rattle.log_whole.proofs.trailer_fits.Goals as goal

pub returns : goal.returns
returns c = λ i.
    eqb (c.u32_at-mark.ensures i) mark && eqb (c.u32_at-distance.ensures i) (24 + 96 * c.u32_at-count.ensures i) && leb (c.u32_at-distance.ensures i) (length c.args.log.now)
