use Rattle.std.proofs.Common.{refl, rules}
use Rattle.series.proofs.Kept.{one_more, far-below, left_up, left_down, step_up, step_down, back}
use Rattle.series.proofs.sum_step.Goals as goal

pub overflow_add-result : goal.overflow_add-result
overflow_add-result c = record { fits = one_more _ _ (far-below c.args.sum c.args.word c.ranges.word.fits (search rules) c.requires) c.one_if-below.ensures.1 }

pub overflow_sub-result : goal.overflow_sub-result
overflow_sub-result c =
    let a = c.args in
    let n = c.wrapping_sub_u64-low in
    (left_down a.sum a.word c.ranges.word.fits (search rules) c.requires n.result _ _ n.type_inv n.ensures.value c.one_if-borrow.ensures.0 c.one_if-below.ensures.0).0

pub returns-then-sum : goal.returns-then-sum
returns-then-sum c =
    let a = c.args in
    let n = c.wrapping_sub_u64-low in
    let l = (left_down a.sum a.word c.ranges.word.fits (search rules) c.requires n.result _ _ n.type_inv n.ensures.value c.one_if-borrow.ensures.0 c.one_if-below.ensures.0) in
    step_down a.sum a.word _ _ (search rules) c.ranges.word.fits n.type_inv l.1 c.if-sum.true n.result _ _ n.type_inv n.ensures.value c.one_if-borrow.ensures.0 c.one_if-below.ensures.0 (back _ _ l.0) refl

pub overflow_add-result-2 : goal.overflow_add-result-2
overflow_add-result-2 c = record { fits = one_more _ _ (far-below c.args.sum c.args.word c.ranges.word.fits (search rules) c.requires) c.one_if-carry.ensures.1 }

pub overflow_sub-result-2 : goal.overflow_sub-result-2
overflow_sub-result-2 c =
    let a = c.args in
    let n = c.wrapping_add_u64-low in
    (left_up a.sum a.word c.ranges.word.fits (search rules) c.requires n.result _ _ n.ensures.value c.one_if-carry.ensures.0 c.one_if-below.ensures.0).0

pub returns : goal.returns
returns c =
    let a = c.args in
    let n = c.wrapping_add_u64-low in
    let l = (left_up a.sum a.word c.ranges.word.fits (search rules) c.requires n.result _ _ n.ensures.value c.one_if-carry.ensures.0 c.one_if-below.ensures.0) in
    step_up a.sum a.word _ _ (search rules) c.ranges.word.fits n.type_inv l.1 c.if-sum.false n.result _ _ n.ensures.value c.one_if-carry.ensures.0 c.one_if-below.ensures.0 (back _ _ l.0) refl
