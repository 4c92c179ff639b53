use mathlib.Core.Path.{ap, ◌∙◌}
use Prim.Native.Nat.{◌+◌, max}
use Rattle.host_direct_loss.proofs.moved.Goals as goal

pub returns : goal.returns
returns c =
    let a = c.args in
    λ i. record {
      anchor = a.epoch.anchor;
      latest = a.point;
      sender = (c.larger-sender.ensures ∙ ap (max a.epoch.sender) c.sender_since.ensures) i;
      received = (c.larger-received.ensures ∙ ap (max a.epoch.received) c.received_since.ensures) i;
      seen = a.epoch.seen + 1;
    }
