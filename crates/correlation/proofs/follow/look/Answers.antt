use mathlib.Core.Path.{sym, ◌∙◌}
use mathlib.Core.Bool.{true, false}
use lib.Dec.{eqb}
use borrow.Author.Tests.{eq-eqb, ne_eqb}
use Rattle.correlation.specs.Class.{found_by, first, by_record}
use Rattle.correlation.proofs.follow.look.Goals as goal

pub returns-then-unknown : goal.returns-then-unknown
unfolding found_by
returns-then-unknown c = sym (λ i. first (c.if-unknown.true i) (eqb c.args.timestamp 0) (eqb c.args.sequence c.args.own) (eqb c.args.slot.count 0) (eqb c.args.slot.count 1) (by_record c.args.slot.corrected c.args.slot.unique))

pub returns-then-timestamp-eq0 : goal.returns-then-timestamp-eq0
unfolding found_by
returns-then-timestamp-eq0 c = sym (λ i. first (c.if-unknown.false i) (eq-eqb _ _ c.if-timestamp-eq0.true i) (eqb c.args.sequence c.args.own) (eqb c.args.slot.count 0) (eqb c.args.slot.count 1) (by_record c.args.slot.corrected c.args.slot.unique))

pub returns-then-sequence-own : goal.returns-then-sequence-own
unfolding found_by
returns-then-sequence-own c = sym (λ i. first (c.if-unknown.false i) (ne_eqb _ _ c.if-timestamp-eq0.false i) (eq-eqb _ _ c.if-sequence-own.true i) (eqb c.args.slot.count 0) (eqb c.args.slot.count 1) (by_record c.args.slot.corrected c.args.slot.unique))

pub returns-then-slot-eq0 : goal.returns-then-slot-eq0
unfolding found_by
returns-then-slot-eq0 c = sym (λ i. first (c.if-unknown.false i) (ne_eqb _ _ c.if-timestamp-eq0.false i) (ne_eqb _ _ c.if-sequence-own.false i) (eq-eqb _ _ c.if-slot-eq0.true i) (eqb c.args.slot.count 1) (by_record c.args.slot.corrected c.args.slot.unique))

pub returns-then-slot-eq1 : goal.returns-then-slot-eq1
unfolding found_by
returns-then-slot-eq1 c = c.found_in_record.ensures ∙ sym (λ i. first (c.if-unknown.false i) (ne_eqb _ _ c.if-timestamp-eq0.false i) (ne_eqb _ _ c.if-sequence-own.false i) (ne_eqb _ _ c.if-slot-eq0.false i) (eq-eqb _ _ c.if-slot-eq1.true i) (by_record c.args.slot.corrected c.args.slot.unique))

pub returns : goal.returns
unfolding found_by
returns c = sym (λ i. first (c.if-unknown.false i) (ne_eqb _ _ c.if-timestamp-eq0.false i) (ne_eqb _ _ c.if-sequence-own.false i) (ne_eqb _ _ c.if-slot-eq0.false i) (ne_eqb _ _ c.if-slot-eq1.false i) (by_record c.args.slot.corrected c.args.slot.unique))
