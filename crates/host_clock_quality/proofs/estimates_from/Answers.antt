use Rattle.host_clock_quality.proofs.Answers.{estimates_there, estimates-absent}
use Rattle.host_clock_quality.proofs.estimates_from.Goals as goal

pub returns-then-estimated-ne0 : goal.returns-then-estimated-ne0
returns-then-estimated-ne0 c =
    let at = c.args in
    estimates_there at.estimated at.sender at.reflector _ _ c.if-estimated-ne0.true c.from_wire-first.ensures c.from_wire-second.ensures

pub returns : goal.returns
returns c = estimates-absent c.args.estimated c.args.sender c.args.reflector c.if-estimated-ne0.false
