use Rattle.std.proofs.Common.{◌+◌, max, Bool, true, false, sym, ap, ◌∙◌}
use Rattle.direct.specs.Outcomes.{moved_by}
use Rattle.direct.proofs.moved.Goals as goal

pub returns-then-lower : goal.returns-then-lower
returns-then-lower c =
    (λ i. record {
      anchor = c.args.epoch.anchor;
      latest = c.args.epoch.latest;
      sender = (c.larger-sender.ensures ∙ ap (max c.args.epoch.sender) c.sender_offset.ensures) i;
      received = c.args.epoch.received;
      seen = c.args.epoch.seen + 1;
    })
    ∙ sym (ap (λ (b : Bool). moved_by b c.args.epoch c.args.point) c.if-lower.true)

pub returns : goal.returns
returns c =
    (λ i. record {
      anchor = c.args.epoch.anchor;
      latest = c.args.point;
      sender = (c.larger-sender.ensures ∙ ap (max c.args.epoch.sender) c.sender_offset.ensures) i;
      received = (c.larger-received.ensures ∙ ap (max c.args.epoch.received) c.received_offset.ensures) i;
      seen = c.args.epoch.seen + 1;
    })
    ∙ sym (ap (λ (b : Bool). moved_by b c.args.epoch c.args.point) c.if-lower.false)
