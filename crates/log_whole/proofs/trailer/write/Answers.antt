use mathlib.Core.Path.{◌∙◌}
use Rattle.log_whole.proofs.Laws.{write_room, write_many, write_done, over}
use Rattle.log_whole.proofs.trailer.write.Goals as goal

pub returns-then-bytes-ne24 : goal.returns-then-bytes-ne24
returns-then-bytes-ne24 c = write_room c.args.bytes.now c.args.count c.args.copies c.args.threshold c.args.timeout c.if-bytes-ne24.true

pub returns-then-count-gt682 : goal.returns-then-count-gt682
returns-then-count-gt682 c = write_many c.args.bytes.now c.args.count c.args.copies c.args.threshold c.args.timeout c.if-bytes-ne24.false c.if-count-gt682.true

pub returns : goal.returns
returns c = write_done c.args.bytes.now c.args.count c.args.copies c.args.threshold c.args.timeout _ c.if-bytes-ne24.false c.if-count-gt682.false (c.put_trailer.ensures ∙ over c.args.bytes.now c.args.count c.args.copies c.args.threshold c.args.timeout)
