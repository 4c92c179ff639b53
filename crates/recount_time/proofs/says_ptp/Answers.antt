use Prim.Native.Nat.{◌%◌}
use borrow.Author.Tests.{le-ltb}
use Rattle.timestamps.specs.Conversion.{billion}
use Rattle.estimate.specs.declared.ClockFormat.TheVariants as format
use Rattle.recount_time.proofs.Eras.{says_none}
use Rattle.recount_time.proofs.Steps.{ptp_small, ptp_says}
use borrow.Author.Rules.{rules}
use Rattle.recount_time.proofs.says_ptp.Goals as goal

pub in_some_era-requires : goal.in_some_era-requires
in_some_era-requires c = (ptp_small c.args.timestamp (search rules), search rules)

pub returns-then-ns-lt1000000000 : goal.returns-then-ns-lt1000000000
returns-then-ns-lt1000000000 c =
    ptp_says c.args.timestamp (search rules) c.args.reference c.args.offset c.ranges.reference c.ranges.offset _ (search rules) c.in_some_era.ensures

pub returns : goal.returns
returns c = says_none format.PTP c.args.timestamp _ (rw (le-ltb (c.args.timestamp % 4294967296) billion (search rules)))
