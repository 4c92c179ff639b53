use Rattle.std.specs.Prelude.{Some}
use Rattle.std.proofs.Common.{Bool, true, false, sym, ap, ◌∙◌}
use Rattle.direct.specs.declared.Offsets.TheVariants.{Added}
use Rattle.direct.specs.Outcomes.{step, moved_by, with_anchor, one_reordered, one_observed}
use Rattle.direct.proofs.Room.{reordered_room}
use Rattle.direct.proofs.go_on.Goals as goal

pub one_reordered-requires : goal.one_reordered-requires
one_reordered-requires c = reordered_room c.args.counts c.one_observed-observed.result c.one_observed-observed.ensures c.requires.0

pub returns-then-lower : goal.returns-then-lower
returns-then-lower c =
    c.step_of.ensures
    ∙ (λ i. step ((c.one_reordered.ensures ∙ ap one_reordered c.one_observed-observed.ensures) i)
    (Some ((c.moved-next.ensures ∙ ap (λ (b : Bool). moved_by b c.args.epoch c.args.point) c.if-lower.true) i))
    (Added (c.transmit_offset-transmitted.ensures i)))
    ∙ sym (ap (λ (b : Bool). with_anchor false false false b c.args.counts c.args.epoch c.args.point) c.if-lower.true)

pub returns : goal.returns
returns c =
    c.step_of-2.ensures
    ∙ (λ i. step (c.one_observed-observed.ensures i)
    (Some ((c.moved-next.ensures ∙ ap (λ (b : Bool). moved_by b c.args.epoch c.args.point) c.if-lower.false) i))
    (Added (c.transmit_offset-transmitted.ensures i)))
    ∙ sym (ap (λ (b : Bool). with_anchor false false false b c.args.counts c.args.epoch c.args.point) c.if-lower.false)
