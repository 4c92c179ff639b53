use Rattle.recount_time.proofs.Steps.{wide_in, middle_fits, last_fits, first_fits, scaled_fits, time-fits, fits_is}
use Rattle.recount_time.proofs.fits.Goals as goal

pub overflow_cast-middle : goal.overflow_cast-middle
overflow_cast-middle c =
    wide_in c.args.second c.args.reference c.args.offset c.args.ns c.ranges.second c.ranges.reference c.ranges.offset c.requires.0 c.requires.1

pub overflow_sub-middle : goal.overflow_sub-middle
overflow_sub-middle c =
    middle_fits c.args.second c.args.reference c.args.offset c.args.ns c.ranges.second c.ranges.reference c.ranges.offset c.requires.0 c.requires.1

pub overflow_mul-time : goal.overflow_mul-time
overflow_mul-time c =
    scaled_fits c.args.second c.args.reference c.args.offset c.args.ns c.ranges.second c.ranges.reference c.ranges.offset c.requires.0 c.requires.1

pub overflow_add-time : goal.overflow_add-time
overflow_add-time c =
    time-fits c.args.second c.args.reference c.args.offset c.args.ns c.ranges.second c.ranges.reference c.ranges.offset c.requires.0 c.requires.1

pub overflow_add-result : goal.overflow_add-result
overflow_add-result c =
    last_fits c.args.second c.args.reference c.args.offset c.args.ns c.ranges.second c.ranges.reference c.ranges.offset c.requires.0 c.requires.1

pub overflow_sub-result : goal.overflow_sub-result
overflow_sub-result c =
    first_fits c.args.second c.args.reference c.args.offset c.args.ns c.ranges.second c.ranges.reference c.ranges.offset c.requires.0 c.requires.1

pub returns : goal.returns
returns c =
    fits_is c.args.second c.args.reference c.args.offset c.args.ns c.ranges.second c.ranges.reference c.ranges.offset c.requires.0 c.requires.1
