use Rattle.host_delay.proofs.Laws.{other_side, beyond_far, opposite_near, alike_near}
use Rattle.host_delay.proofs.lies_within.Goals as goal

pub returns-then-far_kind-kind : goal.returns-then-far_kind-kind
returns-then-far_kind-kind c =
    let a = c.args in
    other_side a.kind a.other a.magnitude a.far_kind a.far a.near_kind a.near c.if-far_kind-kind.true

pub returns-then-far-magnitude : goal.returns-then-far-magnitude
returns-then-far-magnitude c =
    let a = c.args in
    beyond_far a.kind a.other a.magnitude a.far_kind a.far a.near_kind a.near c.if-far_kind-kind.false c.if-far-magnitude.true

pub returns-then-near_kind-other : goal.returns-then-near_kind-other
returns-then-near_kind-other c =
    let a = c.args in
    opposite_near a.kind a.other a.magnitude a.far_kind a.far a.near_kind a.near c.if-far_kind-kind.false c.if-far-magnitude.false c.if-near_kind-other.true

pub returns : goal.returns
returns c =
    let a = c.args in
    alike_near a.kind a.other a.magnitude a.far_kind a.far a.near_kind a.near c.if-far_kind-kind.false c.if-far-magnitude.false c.if-near_kind-other.false
