use Rattle.std.specs.Prelude.{Some}
use Rattle.std.proofs.Common.{◌-◌, ◌∙◌}
use Rattle.direct.specs.Shown.{less}
use Rattle.direct.proofs.summary.epoch_spans.Goals as goal

pub returns : goal.returns
returns c = λ i. record {
  sent = Some c.args.epoch.sender;
  received = Some c.args.epoch.received;
  forward = c.less_than.ensures i;
  transmitted = Some (c.transmit_offset-highest.ensures i);
  replies = Some (c.replies_received-replies.ensures i);
  reverse = (c.less_than-2.ensures ∙ (λ j. less (c.transmit_offset-highest.ensures j) (c.replies_received-replies.ensures j))) i;
}
