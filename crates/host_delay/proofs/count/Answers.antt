use mathlib.Core.Path.{sym, ap, ◌∙◌, subst}
use lib.Seq.{sets}
use mir.Syntax.{w64}
use mir.ValLaws.{to_z-of_z}
use Rattle.delays.specs.declared.Delays.{Delays}
use Rattle.delays.specs.Bounds.{Bounded}
use Rattle.delays.specs.Delays.{recorded_of}
use Rattle.delays.specs.Sums.{nanoseconds_of}
use Rattle.host_ledger.specs.Parts.{delays_words}
use Rattle.host_delay.proofs.Laws.{usual_as}
use Rattle.host_delay.proofs.count.Goals as goal

pub returns-then-is_usual : goal.returns-then-is_usual
returns-then-is_usual c =
    c.add.ensures ∙ usual_as c.args.ledger.now c.args.ns c.from_i64-sample.result (c.from_i64-sample.ensures ∙ ap nanoseconds_of (to_z-of_z w64 c.args.ns c.ranges.ns)) (sym c.is_usual.ensures ∙ c.if-is_usual.true)

pub recorded-requires : goal.recorded-requires
recorded-requires c = subst Bounded (sym c.delay_of-before.ensures) c.requires

pub returns : goal.returns
returns c =
    c.store_delay.ensures
    ∙ ap (λ (d : Delays). sets c.args.ledger.now 50 (delays_words d))
    (c.recorded.ensures ∙ (λ i. recorded_of (c.delay_of-before.ensures i) ((c.from_i64-sample.ensures ∙ ap nanoseconds_of (to_z-of_z w64 c.args.ns c.ranges.ns)) i)))
