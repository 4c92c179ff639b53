use Rattle.std.specs.Prelude.{None}
use Rattle.std.proofs.Common.{Bool, true, false, eqb, ltb, sym, ap, ◌∙◌, eq-eqb, ne_eqb}
use Rattle.direct.specs.declared.Counts.{Counts}
use Rattle.direct.specs.declared.Offsets.TheVariants.{Cleared}
use Rattle.direct.specs.Offsets.{transmit_offset}
use Rattle.direct.specs.Outcomes.{step, with_anchor, highest, one_observed, one_unavailable, one_discontinuity, history_exceeded}
use Rattle.direct.proofs.Room.{unavailable_room, discontinued_room, discontinued_after}
use Rattle.direct.proofs.follow.Goals as goal

pub one_discontinuity-discontinued-requires : goal.one_discontinuity-discontinued-requires
one_discontinuity-discontinued-requires c = discontinued_room c.args.counts c.one_observed-observed.result c.one_observed-observed.ensures c.requires.0

pub returns-then-breaks : goal.returns-then-breaks
returns-then-breaks c =
    c.step_of.ensures
    ∙ ap (λ (n : Counts). step n None Cleared) (c.one_discontinuity-discontinued.ensures ∙ ap one_discontinuity c.one_observed-observed.ensures)
    ∙ sym (λ i. with_anchor ((sym c.breaks.ensures ∙ c.if-breaks.true) i) c.args.again (eqb c.args.epoch.seen 4096) (ltb (transmit_offset c.args.epoch.anchor c.args.point) (highest c.args.epoch)) c.args.counts c.args.epoch c.args.point)

pub one_unavailable-unavailable-requires : goal.one_unavailable-unavailable-requires
one_unavailable-unavailable-requires c = unavailable_room c.args.counts c.one_observed-observed-then-again.result c.one_observed-observed-then-again.ensures c.requires.0

pub one_discontinuity-seen_again-requires : goal.one_discontinuity-seen_again-requires
one_discontinuity-seen_again-requires c = discontinued_after c.args.counts c.one_observed-observed-then-again.result c.one_observed-observed-then-again.ensures c.requires.0 c.one_unavailable-unavailable.result c.one_unavailable-unavailable.ensures

pub returns-then-again : goal.returns-then-again
returns-then-again c =
    c.step_of-then-again.ensures
    ∙ ap (λ (n : Counts). step n None Cleared)
    (c.one_discontinuity-seen_again.ensures ∙ ap one_discontinuity (c.one_unavailable-unavailable.ensures ∙ ap one_unavailable c.one_observed-observed-then-again.ensures))
    ∙ sym (λ i. with_anchor ((sym c.breaks.ensures ∙ c.if-breaks.false) i) (c.if-again.true i) (eqb c.args.epoch.seen 4096) (ltb (transmit_offset c.args.epoch.anchor c.args.point) (highest c.args.epoch)) c.args.counts c.args.epoch c.args.point)

pub returns-then-epoch-eq-CAPACITY : goal.returns-then-epoch-eq-CAPACITY
returns-then-epoch-eq-CAPACITY c =
    c.step_of-then-epoch-eq-CAPACITY.ensures
    ∙ ap (λ (n : Counts). step n None Cleared) (c.history_exceeded.ensures ∙ ap history_exceeded c.one_observed-observed-then-epoch-eq-CAPACITY.ensures)
    ∙ sym (λ i. with_anchor ((sym c.breaks.ensures ∙ c.if-breaks.false) i) (c.if-again.false i) (eq-eqb _ _ c.if-epoch-eq-CAPACITY.true i) (ltb (transmit_offset c.args.epoch.anchor c.args.point) (highest c.args.epoch)) c.args.counts c.args.epoch c.args.point)

pub returns : goal.returns
returns c =
    c.go_on.ensures
    ∙ ap (λ (b : Bool). with_anchor false false false b c.args.counts c.args.epoch c.args.point)
    (λ i. ltb (c.transmit_offset.ensures i) (c.transmit_offset-2.ensures i))
    ∙ sym (λ i. with_anchor ((sym c.breaks.ensures ∙ c.if-breaks.false) i) (c.if-again.false i) (ne_eqb _ _ c.if-epoch-eq-CAPACITY.false i) (ltb (transmit_offset c.args.epoch.anchor c.args.point) (highest c.args.epoch)) c.args.counts c.args.epoch c.args.point)
