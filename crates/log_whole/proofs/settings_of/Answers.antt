use Prim.Native.Nat.{◌-◌}
use lib.ListN.{length}
use Rattle.log_whole.specs.Logs.{settings_of}
use Rattle.log_whole.proofs.settings_of.Goals as goal

pub returns : goal.returns
unfolding settings_of
returns c = λ i. record {
  copies = c.u16_at.ensures i;
  threshold = c.u16_at-2.ensures i;
  timeout = c.u64_at.ensures i;
  count = c.u32_at.ensures i;
  start = length c.args.log.now - c.u32_at-distance.ensures i;
}
