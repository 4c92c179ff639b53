use mathlib.Core.Path.{sym, ap, ◌∙◌}
use Rattle.bit_observation.specs.Observation.{ending}
use Rattle.bit_observation.proofs.finish.Goals as goal

pub returns-in-On : goal.returns-in-On
returns-in-On c =
    let a = c.args in
    c.judge.ensures ∙ sym (ap (ending a.bytes.now a.pattern.now a.size a.wanted) c.in-On.is)

pub returns-in-Ended : goal.returns-in-Ended
returns-in-Ended c =
    let a = c.args in
    c.judge-in-Ended.ensures ∙ sym (ap (ending a.bytes.now a.pattern.now a.size a.wanted) c.in-Ended.is)

pub returns-in-Unsupported : goal.returns-in-Unsupported
returns-in-Unsupported c =
    let a = c.args in
    sym (ap (ending a.bytes.now a.pattern.now a.size a.wanted) c.in-Unsupported.is)

pub returns-in-Unusable : goal.returns-in-Unusable
returns-in-Unusable c =
    let a = c.args in
    sym (ap (ending a.bytes.now a.pattern.now a.size a.wanted) c.in-Unusable.is)
