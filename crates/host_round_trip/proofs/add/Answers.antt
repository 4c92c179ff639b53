use native.Mathlib.Omega.{arith}
use Rattle.host_ledger.specs.Parts.{delays_of}
use Rattle.host_round_trip.proofs.Laws.{high-below, added-as}
use Rattle.host_round_trip.proofs.add.Goals as goal

pub farther-sum-requires : goal.farther-sum-requires
unfolding delays_of
farther-sum-requires c = high-below _ _ c.requires.0.sum

pub overflow_add-ledger : goal.overflow_add-ledger
unfolding delays_of
overflow_add-ledger c = record { fits = omega (arith, c.requires.0.count) }

pub returns : goal.returns
returns c =
    added-as c.args.ledger.now c.args.ns c.requires.1 c.requires.2 c.requires.3 _ _ _
    c.farther-sum.ensures c.smaller-least.ensures c.larger-most.ensures
