use mathlib.Core.Path.{sym, ◌∙◌}
use native.Mathlib.Omega.{arith}
use Rattle.log_trim.proofs.Laws.{trim-long, trim_short, trim-whole, trim_cut, whole-fits, kept-within}
use Rattle.log_trim.proofs.trim.Goals as goal

pub returns-then-log-gt-MOST_BYTES : goal.returns-then-log-gt-MOST_BYTES
returns-then-log-gt-MOST_BYTES c =
    let a = c.args in
    trim-long a.log.now a.room.now a.copies a.threshold a.timeout c.if-log-gt-MOST_BYTES.true

pub returns-then-room-stop : goal.returns-then-room-stop
returns-then-room-stop c =
    let a = c.args in
    trim_short a.log.now a.room.now a.copies a.threshold a.timeout c.kept_records-kept.result c.if-log-gt-MOST_BYTES.false
    c.kept_records-kept.ensures c.if-room-stop.true

pub copy-requires : goal.copy-requires
copy-requires c =
    let e = whole-fits c.args.log.now c.kept_records-kept.result c.kept_records-kept.ensures (sym c.is_whole-all.ensures ∙ c.if-all.true) in
    (omega arith, omega arith)

pub returns-then-all : goal.returns-then-all
returns-then-all c =
    let a = c.args in
    trim-whole a.log.now a.room.now a.copies a.threshold a.timeout c.kept_records-kept.result c.if-log-gt-MOST_BYTES.false
    c.kept_records-kept.ensures c.copy.new.room (sym c.is_whole-all.ensures ∙ c.if-all.true) c.if-room-stop.false c.copy.ensures

pub put_log-requires : goal.put_log-requires
put_log-requires c =
    let l = kept-within c.args.log.now c.kept_records-kept.result c.kept_records-kept.ensures in
    (omega arith, l, c.if-room-stop.false)

pub overflow_sub-result : goal.overflow_sub-result
overflow_sub-result c = kept-within c.args.log.now c.kept_records-kept.result c.kept_records-kept.ensures

pub returns : goal.returns
returns c =
    let a = c.args in
    trim_cut a.log.now a.room.now a.copies a.threshold a.timeout c.kept_records-kept.result c.if-log-gt-MOST_BYTES.false
    c.kept_records-kept.ensures c.put_log.new.room (sym c.is_whole-all.ensures ∙ c.if-all.false) c.if-room-stop.false c.put_log.ensures
