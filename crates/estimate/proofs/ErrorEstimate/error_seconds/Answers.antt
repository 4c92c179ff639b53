use Rattle.estimate.proofs.Values.{seconds_val}
use borrow.Author.Rules.{rules}
use Rattle.estimate.proofs.ErrorEstimate.error_seconds.Goals as goal

pub returns : goal.returns
returns c =
    let e = c.args.self in
    let p = c.power_of_two-power in
    seconds_val e.multiplier e.scale p.result (search rules) (search rules) p.ensures.exact
