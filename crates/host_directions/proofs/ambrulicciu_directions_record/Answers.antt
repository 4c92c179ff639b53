use mathlib.Core.Bool.{true, false}
use Rattle.host_directions.proofs.Answers.{own-fits, still-far, sign_read, record_tried, tried_fits, not_tried, by_way, is_forward, is_reverse}
use Rattle.host_directions.proofs.ambrulicciu_directions_record.Goals as goal

pub try_own-requires : goal.try_own-requires
try_own-requires c = own-fits c.load_own-own.result c.args.value _ c.is_far.ensures c.if-is_far.true

pub sum_step-words-requires : goal.sum_step-words-requires
sum_step-words-requires c =
    let a = c.args in
    still-far a.directions.now false c.load_own-own.result _ a.value _ c.load_own-own.ensures c.load_sum-before.ensures c.is_far.ensures c.if-is_far.true

pub overflow_add-own : goal.overflow_add-own
overflow_add-own c =
    let a = c.args in
    record { fits = tried_fits c.load_own-own.result a.slice.now _ false a.value c.try_own.result c.if-try_own.true c.try_own.ensures }

pub store_more-requires : goal.store_more-requires
store_more-requires c = sign_read c.args.directions.now false _ c.load_sum-before.ensures

pub returns-then-try_own : goal.returns-then-try_own
returns-then-try_own c =
    let a = c.args in
    let step = c.sum_step-words in
    record_tried a.directions.now a.slice.now _ a.recorded.now a.reverse a.value false (is_forward a.reverse c.if-reverse-eq0.true) c.load_own-own.result c.load_sum-before.result step.result.high step.result.low
    c.load_own-own.ensures c.load_sum-before.ensures step.ensures _ c.try_own.result c.if-try_own.true c.try_own.ensures c.store_more.ensures

pub returns-then-is_far : goal.returns-then-is_far
returns-then-is_far c =
    let a = c.args in
    not_tried a.directions.now a.slice.now _ a.recorded.now a.reverse a.value _ _ _ _ false c.load_own-own.result c.try_own.result c.if-try_own.false c.try_own.ensures
    (by_way a.directions.now _ _ a.recorded.now a.reverse 0 a.value _ _ _ (is_forward a.reverse c.if-reverse-eq0.true) c.record_any.ensures)

pub returns-then-reverse-eq0 : goal.returns-then-reverse-eq0
returns-then-reverse-eq0 c =
    let a = c.args in
    by_way a.directions.now a.slice.now _ a.recorded.now a.reverse 0 a.value _ _ _ (is_forward a.reverse c.if-reverse-eq0.true) c.record_any-then-reverse-eq0.ensures

pub try_own-requires-then-is_far-2 : goal.try_own-requires-then-is_far-2
try_own-requires-then-is_far-2 c = own-fits c.load_own-own-2.result c.args.value _ c.is_far-2.ensures c.if-is_far-2.true

pub sum_step-words-requires-then-try_own-2 : goal.sum_step-words-requires-then-try_own-2
sum_step-words-requires-then-try_own-2 c =
    let a = c.args in
    still-far a.directions.now true c.load_own-own-2.result _ a.value _ c.load_own-own-2.ensures c.load_sum-before-then-try_own-2.ensures c.is_far-2.ensures c.if-is_far-2.true

pub overflow_add-own-then-try_own-2 : goal.overflow_add-own-then-try_own-2
overflow_add-own-then-try_own-2 c =
    let a = c.args in
    record { fits = tried_fits c.load_own-own-2.result a.slice.now _ true a.value c.try_own-then-is_far-2.result c.if-try_own-2.true c.try_own-then-is_far-2.ensures }

pub store_more-requires-then-try_own-2 : goal.store_more-requires-then-try_own-2
store_more-requires-then-try_own-2 c = sign_read c.args.directions.now true _ c.load_sum-before-then-try_own-2.ensures

pub returns-then-try_own-2 : goal.returns-then-try_own-2
returns-then-try_own-2 c =
    let a = c.args in
    let step = c.sum_step-words-then-try_own-2 in
    record_tried a.directions.now a.slice.now _ a.recorded.now a.reverse a.value true (is_reverse a.reverse c.if-reverse-eq0.false) c.load_own-own-2.result c.load_sum-before-then-try_own-2.result step.result.high step.result.low
    c.load_own-own-2.ensures c.load_sum-before-then-try_own-2.ensures step.ensures _ c.try_own-then-is_far-2.result c.if-try_own-2.true c.try_own-then-is_far-2.ensures c.store_more-then-try_own-2.ensures

pub returns-then-is_far-2 : goal.returns-then-is_far-2
returns-then-is_far-2 c =
    let a = c.args in
    not_tried a.directions.now a.slice.now _ a.recorded.now a.reverse a.value _ _ _ _ true c.load_own-own-2.result c.try_own-then-is_far-2.result c.if-try_own-2.false c.try_own-then-is_far-2.ensures
    (by_way a.directions.now _ _ a.recorded.now a.reverse 1 a.value _ _ _ (is_reverse a.reverse c.if-reverse-eq0.false) c.record_any-then-is_far-2.ensures)

pub returns : goal.returns
returns c =
    let a = c.args in
    by_way a.directions.now a.slice.now _ a.recorded.now a.reverse 1 a.value _ _ _ (is_reverse a.reverse c.if-reverse-eq0.false) c.record_any-2.ensures
