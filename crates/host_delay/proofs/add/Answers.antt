use mathlib.Core.Path.{ap}
use Prim.Native.Nat.{◌+◌}
use native.Mathlib.Omega.{arith}
use lib.ListN.{get_or, set}
use Rattle.delays.specs.declared.Sum.{Sum}
use Rattle.host_ledger.specs.Parts.{delays_of}
use Rattle.host_round_trip.proofs.Laws.{high-below}
use Rattle.host_delay.proofs.add.Goals as goal

pub farther-sum-requires : goal.farther-sum-requires
unfolding delays_of
farther-sum-requires c = high-below _ _ c.requires.sum

pub overflow_add-ledger : goal.overflow_add-ledger
unfolding delays_of
overflow_add-ledger c = record { fits = omega (arith, c.requires.count) }

pub returns : goal.returns
returns c =
    let w = c.args.ledger.now in
    ap (λ (s : Sum). set (set (set w 50 (get_or w 50 0 + 1)) 52 s.high) 53 s.low) c.farther-sum.ensures
