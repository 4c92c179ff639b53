use mathlib.Core.Path.{◌∙◌}
use Rattle.host_ledger.specs.Parts.{epoch_of, point_of}
use Rattle.host_ledger.proofs.parts.epoch_of.Goals as goal

pub returns : goal.returns
unfolding epoch_of
returns c =
    let anchor = c.point_of-first.ensures ∙ (λ i. point_of (c.low.ensures i) (c.high.ensures i) (c.low-2.ensures i)) in
    let latest = c.point_of-last.ensures ∙ (λ i. point_of (c.low-3.ensures i) (c.high-2.ensures i) (c.high-3.ensures i)) in
    λ i. record { anchor = anchor i; latest = latest i; sender = c.low-4.ensures i; received = c.high-4.ensures i; seen = c.args.seen }
