use Rattle.recount_time.proofs.Steps.{reads_same}
use Rattle.recount_time.proofs.says_time.Goals as goal

pub returns-in-NTP : goal.returns-in-NTP
returns-in-NTP c =
    reads_same c.args.reference c.args.offset c.ranges.reference c.ranges.offset _ _ _ _ c.in-NTP.is c.says_ntp.ensures

pub returns-in-PTP : goal.returns-in-PTP
returns-in-PTP c =
    reads_same c.args.reference c.args.offset c.ranges.reference c.ranges.offset _ _ _ _ c.in-PTP.is c.says_ptp.ensures
