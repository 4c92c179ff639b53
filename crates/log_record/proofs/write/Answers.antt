use mathlib.Core.Path.{◌∙◌}
use Rattle.log_record.proofs.Answers.{over-zeros, write_room, write_scale, write_done}
use Rattle.log_record.proofs.write.Goals as goal

pub returns-then-bytes-ne96 : goal.returns-then-bytes-ne96
returns-then-bytes-ne96 c = write_room c.args.bytes.now c.args.said c.if-bytes-ne96.true

pub returns-then-not-scales_fit : goal.returns-then-not-scales_fit
returns-then-not-scales_fit c = write_scale c.args.bytes.now c.args.said c.scales_fit.result c.if-bytes-ne96.false c.scales_fit.ensures c.if-not-scales_fit.true

pub returns : goal.returns
returns c =
    write_done c.args.bytes.now _ c.args.said c.scales_fit.result c.if-bytes-ne96.false c.scales_fit.ensures c.if-not-scales_fit.false
    (c.put_entry.ensures ∙ over-zeros c.args.said _ _ c.if-bytes-ne96.false (c.fill.ensures.after (λ y e. e)))
