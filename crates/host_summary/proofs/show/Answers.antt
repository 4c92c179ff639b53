use Rattle.host_summary.proofs.Stored.{show-said}
use Rattle.host_summary.proofs.show.Goals as goal

pub returns : goal.returns
returns c =
    let a = c.args in
    show-said a.shown.now a.summary _ _ _ _ _ _ c.ms_known.ensures c.ms_bits.ensures c.ms_known-2.ensures c.ms_bits-2.ensures c.ms_known-3.ensures c.ms_bits-3.ensures
