use Rattle.estimate.proofs.Values.{is_known, ms_val}
use borrow.Author.Rules.{rules}
use Rattle.estimate.proofs.ErrorEstimate.reading.Goals as goal

pub returns : goal.returns
returns c =
    let e = c.args.self in
    is_known e _ c.if-self-eq0.false c.if-self-gt63.false (ms_val e.multiplier e.scale _ (search rules) (search rules) c.error_seconds.ensures)
