use Rattle.host_spread.proofs.Short.{more_ready, record_more, not_tried}
use Rattle.host_spread.proofs.ambrulicciu_spread_record.Goals as goal

pub store_more-requires : goal.store_more-requires
store_more-requires c =
    let a = c.args in
    more_ready a.spread.now a.room.now _ a.value c.load-state.result _ _ c.load-state.ensures c.sums_fit.ensures c.if-sums_fit-quantiles.true c.if-record_between.true c.record_between.ensures

pub returns-then-record_between : goal.returns-then-record_between
returns-then-record_between c =
    let a = c.args in
    record_more a.spread.now a.room.now _ a.value c.load-state.result _ _ c.load-state.ensures c.sums_fit.ensures c.if-sums_fit-quantiles.true c.if-record_between.true c.record_between.ensures _ a.recorded.now _ c.store_more.ensures.0 c.store_more.ensures.1

pub returns-then-sums_fit-quantiles : goal.returns-then-sums_fit-quantiles
returns-then-sums_fit-quantiles c =
    let a = c.args in
    not_tried a.spread.now a.room.now _ a.recorded.now a.value _ _ _ _ _ _ c.if-record_between.false c.record_between.ensures c.record_any.ensures
