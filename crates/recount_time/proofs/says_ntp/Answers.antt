use Rattle.recount_time.proofs.Steps.{ntp_fits, ntp_small, ntp_says}
use borrow.Author.Rules.{rules}
use Rattle.recount_time.proofs.says_ntp.Goals as goal

pub overflow_sub-second : goal.overflow_sub-second
overflow_sub-second c = ntp_fits c.args.timestamp (search rules)

pub in_some_era-requires : goal.in_some_era-requires
in_some_era-requires c = (ntp_small c.args.timestamp (search rules), search rules)

pub returns : goal.returns
returns c =
    ntp_says c.args.timestamp (search rules) c.args.reference c.args.offset c.ranges.reference c.ranges.offset _ c.in_some_era.ensures
