use Rattle.host_own_slot.proofs.Laws.{flags-as, flags-below}
use Rattle.host_own_slot.proofs.record_flags.Goals as goal

pub returns : goal.returns
returns c =
    let timed = c.flag-timed.ensures in
    let ptp = c.flag-ptp.ensures in
    let estimated = c.flag-estimated.ensures in (
      flags-as c.args.words.now _ _ _ _ _ _
          timed.0 c.has.ensures ptp.0 c.has-2.ensures estimated.0 c.has-3.ensures,
      flags-below _ _ _ timed.1 ptp.1 estimated.1,
    )
