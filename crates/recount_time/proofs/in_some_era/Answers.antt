use borrow.Author.Rules.{rules}
use Rattle.recount_time.proofs.Steps.{before-fits, before_small, same-small, after-fits, after_small, eras_are}
use Rattle.recount_time.proofs.in_some_era.Goals as goal

pub overflow_sub-second : goal.overflow_sub-second
overflow_sub-second c = before-fits c.args.second c.ranges.second c.requires.0

pub fits-before-requires : goal.fits-before-requires
fits-before-requires c = (before_small c.args.second c.ranges.second c.requires.0, search rules)

pub fits-same-requires : goal.fits-same-requires
fits-same-requires c = (same-small c.args.second c.ranges.second c.requires.0, search rules)

pub overflow_add-second : goal.overflow_add-second
overflow_add-second c = after-fits c.args.second c.ranges.second c.requires.0

pub fits-after-requires : goal.fits-after-requires
fits-after-requires c = (after_small c.args.second c.ranges.second c.requires.0, search rules)

pub returns : goal.returns
returns c =
    eras_are c.args.second c.ranges.second c.requires.0 c.args.reference c.args.offset c.args.ns c.ranges.reference c.ranges.offset _ _ _ c.fits-before.ensures c.fits-same.ensures c.fits-after.ensures
