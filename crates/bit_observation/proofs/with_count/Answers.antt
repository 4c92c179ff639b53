use mathlib.Core.Path.{sym, ◌∙◌}
use Rattle.bit_observation.proofs.Laws.{count-once, count_again, count-wrong}
use Rattle.bit_observation.proofs.with_count.Goals as goal

pub returns-then-absent : goal.returns-then-absent
returns-then-absent c =
    let a = c.args in
    count-once a.seen a.value.now _ c.if-value-eq4.true (sym c.absent.ensures ∙ c.if-absent.true) c.u32_at.ensures

pub returns-then-value-eq4 : goal.returns-then-value-eq4
returns-then-value-eq4 c =
    let a = c.args in
    count_again a.seen a.value.now c.if-value-eq4.true (sym c.absent.ensures ∙ c.if-absent.false)

pub returns : goal.returns
returns c =
    let a = c.args in
    count-wrong a.seen a.value.now c.if-value-eq4.false
