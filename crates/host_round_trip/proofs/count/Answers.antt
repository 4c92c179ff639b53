use mathlib.Core.Path.{sym, ap, ◌∙◌, subst}
use lib.IntN.{pos}
use lib.Seq.{sets}
use Rattle.delays.specs.declared.Delays.{Delays}
use Rattle.delays.specs.Bounds.{Bounded}
use Rattle.delays.specs.Delays.{recorded_of}
use Rattle.delays.specs.Sums.{nanoseconds_of}
use Rattle.host_ledger.specs.Parts.{delays_words}
use Rattle.host_round_trip.proofs.Laws.{ordinary-as}
use Rattle.host_round_trip.proofs.count.Goals as goal

pub add-requires : goal.add-requires
add-requires c =
    let ordinary = ordinary-as c.args.ledger.now _ c.is_ordinary.ensures c.if-is_ordinary.true in
    (c.requires, ordinary.0, ordinary.1, ordinary.2)

pub recorded-requires : goal.recorded-requires
recorded-requires c = subst Bounded (sym c.rtt_of-before.ensures) c.requires

pub returns : goal.returns
returns c =
    c.store_rtt.ensures
    ∙ ap (λ (d : Delays). sets c.args.ledger.now 25 (delays_words d))
    (c.recorded.ensures ∙ ap (λ (d : Delays). recorded_of d (nanoseconds_of (pos c.args.ns))) c.rtt_of-before.ensures)
