use Rattle.delays.proofs.Steps.{spanned}
use Rattle.delays.proofs.in_ms.Goals as goal

pub returns : goal.returns
returns c =
    let a = c.args.ns in
    spanned a.negative a.magnitude _ c.nearest_signed.ensures
