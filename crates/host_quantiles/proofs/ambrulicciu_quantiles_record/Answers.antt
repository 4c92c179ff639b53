use Rattle.host_quantiles.proofs.Answers.{kind_unsigned, kind_signed, record_tried, tried_fits, not_tried}
use Rattle.host_quantiles.proofs.ambrulicciu_quantiles_record.Goals as goal

pub overflow_add-quantiles : goal.overflow_add-quantiles
overflow_add-quantiles c = record { fits = tried_fits _ _ _ _ _ c.if-record_between.true c.record_between.ensures }

pub returns-then-record_between : goal.returns-then-record_between
returns-then-record_between c =
    let a = c.args in
    let s = c.state_of-state in
    record_tried a.quantiles.now a.room.now _ a.recorded.now a.value s.result (kind_unsigned a.quantiles.now s.result s.ensures c.if-quantiles-eq0.true) _ c.if-record_between.true c.record_between.ensures

pub returns-then-quantiles-eq0 : goal.returns-then-quantiles-eq0
returns-then-quantiles-eq0 c =
    let a = c.args in
    not_tried a.quantiles.now a.room.now _ a.recorded.now a.value _ _ _ _ c.state_of-state.result _ c.if-record_between.false c.record_between.ensures c.record_any.ensures

pub overflow_add-quantiles-then-record_between-2 : goal.overflow_add-quantiles-then-record_between-2
overflow_add-quantiles-then-record_between-2 c = record { fits = tried_fits _ _ _ _ _ c.if-record_between-2.true c.record_between-2.ensures }

pub returns-then-record_between-2 : goal.returns-then-record_between-2
returns-then-record_between-2 c =
    let a = c.args in
    let s = c.state_of-state-2 in
    record_tried a.quantiles.now a.room.now _ a.recorded.now a.value s.result (kind_signed a.quantiles.now s.result s.ensures c.if-quantiles-eq0.false) _ c.if-record_between-2.true c.record_between-2.ensures

pub returns : goal.returns
returns c =
    let a = c.args in
    not_tried a.quantiles.now a.room.now _ a.recorded.now a.value _ _ _ _ c.state_of-state-2.result _ c.if-record_between-2.false c.record_between-2.ensures c.record_any-2.ensures
