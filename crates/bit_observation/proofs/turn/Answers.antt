use mathlib.Core.Path.{sym, ap, ◌∙◌}
use Rattle.bit_observation.specs.declared.Reading.{Reading}
use Rattle.bit_observation.specs.Reading.{turned}
use Rattle.bit_observation.proofs.turn.Goals as goal

pub returns-in-On : goal.returns-in-On
returns-in-On c =
    let a = c.args in
    c.step.ensures ∙ sym (ap (λ (r : Reading). turned a.bytes.now a.pattern.now r a.word) c.in-On.is)

pub returns-in-Ended : goal.returns-in-Ended
returns-in-Ended c =
    let a = c.args in
    sym (ap (λ (r : Reading). turned a.bytes.now a.pattern.now r a.word) c.in-Ended.is)

pub returns-in-Unsupported : goal.returns-in-Unsupported
returns-in-Unsupported c =
    let a = c.args in
    sym (ap (λ (r : Reading). turned a.bytes.now a.pattern.now r a.word) c.in-Unsupported.is)

pub returns-in-Unusable : goal.returns-in-Unusable
returns-in-Unusable c =
    let a = c.args in
    sym (ap (λ (r : Reading). turned a.bytes.now a.pattern.now r a.word) c.in-Unusable.is)
