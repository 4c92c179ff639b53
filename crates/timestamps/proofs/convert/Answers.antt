use Rattle.estimate.specs.declared.ClockFormat.TheVariants as format
use Rattle.timestamps.proofs.Steps.{wide_fits, r_fits, r_near, converts_near, far-absent}
use Rattle.timestamps.proofs.convert.Goals as goal

pub overflow_cast-r : goal.overflow_cast-r
overflow_cast-r c = wide_fits c.args.reference c.args.offset c.ranges.reference c.ranges.offset

pub overflow_add-r : goal.overflow_add-r
overflow_add-r c = r_fits c.args.reference c.args.offset c.ranges.reference c.ranges.offset c.if-reference.true

pub from_ntp-requires : goal.from_ntp-requires
from_ntp-requires c =
    r_near c.args.reference c.args.offset c.ranges.reference c.ranges.offset c.if-reference.true

pub from_ptp-requires : goal.from_ptp-requires
from_ptp-requires c =
    r_near c.args.reference c.args.offset c.ranges.reference c.ranges.offset c.if-reference.true

pub returns-in-NTP : goal.returns-in-NTP
returns-in-NTP c =
    converts_near c.args.reference c.args.offset c.ranges.reference c.ranges.offset c.if-reference.true
    c.args.format format.NTP c.args.timestamp c.from_ntp.result c.in-NTP.is c.from_ntp.ensures

pub returns-in-PTP : goal.returns-in-PTP
returns-in-PTP c =
    converts_near c.args.reference c.args.offset c.ranges.reference c.ranges.offset c.if-reference.true
    c.args.format format.PTP c.args.timestamp c.from_ptp.result c.in-PTP.is c.from_ptp.ensures

pub returns : goal.returns
returns c =
    far-absent c.args.reference c.args.offset c.ranges.reference c.ranges.offset c.args.format c.args.timestamp c.if-reference.false
