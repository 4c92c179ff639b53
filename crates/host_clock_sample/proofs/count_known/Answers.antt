use native.Mathlib.Omega.{arith}
use Rattle.host_quality.specs.Words.{quality_at}
use Rattle.host_clock_sample.proofs.Laws.{known_as}
use Rattle.host_clock_sample.proofs.count_known.Goals as goal

pub overflow_add-ledger : goal.overflow_add-ledger
unfolding quality_at
overflow_add-ledger c = record { fits = omega (arith, c.requires.0.samples) }

pub overflow_add-ledger-2 : goal.overflow_add-ledger-2
unfolding quality_at
overflow_add-ledger-2 c = record { fits = omega (arith, c.requires.0.both, c.flag-synchronized.ensures.1) }

pub overflow_add-ledger-3 : goal.overflow_add-ledger-3
unfolding quality_at
overflow_add-ledger-3 c = record { fits = omega (arith, c.requires.0.unsynchronized, c.flag-synchronized.ensures.1) }

pub returns : goal.returns
returns c =
    known_as c.args.ledger.now c.args.sender c.args.reflector c.args.x c.args.y
    c.requires.1 c.requires.2 _ _ c.from_wire-first.ensures c.from_wire-second.ensures _ _ _ _ _ _ _ _
    c.flag-synchronized.ensures.0 c.largest_of-before.ensures c.larger-largest.ensures c.largest_bits.ensures.0
    c.known_word.ensures c.bits_of.ensures.0 c.known_word-2.ensures c.bits_of-2.ensures.0
