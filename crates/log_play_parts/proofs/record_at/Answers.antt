use mathlib.Core.Path.{sym, subst}
use Rattle.log_play_parts.specs.Parts.{ReadFits}
use Rattle.log_play_parts.proofs.Bytes.{record-fits}
use Rattle.log_play_parts.proofs.record_at.Goals as goal

pub returns : goal.returns
returns c =
    let a = c.args in
    (c.call_at.ensures, subst ReadFits (sym c.call_at.ensures) (record-fits a.log.now (λ i. (c.shared_slice_known-1.given i).fits) a.i))
