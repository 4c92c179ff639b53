use mathlib.Core.Path.{sym, subst}
use native.Mathlib.Omega.{arith}
use mir.Syntax.{w32}
use mir.ValLaws.{to_z-of_z}
use Rattle.correlation.specs.Class.{OffsetInRange}
use Rattle.host_ledger.specs.Parts.{follow_at}
use Rattle.host_observe_words.proofs.Matched.{delay_bounded, quality_bounded, matched_as}
use Rattle.host_observe_words.proofs.count_matched.Goals as goal

pub overflow_add-ledger : goal.overflow_add-ledger
unfolding follow_at
overflow_add-ledger c = record { fits = omega (arith, c.requires.0.counts.observations) }

pub overflow_add-ledger-2 : goal.overflow_add-ledger-2
unfolding follow_at
overflow_add-ledger-2 c = record { fits = omega (arith, c.requires.0.counts.matched) }

pub count_delay-requires : goal.count_delay-requires
count_delay-requires c =
    let s = c in
    (delay_bounded s.args.ledger.now s.requires.0, s.requires.1, subst OffsetInRange (sym (to_z-of_z w32 s.args.offset s.ranges.offset)) s.requires.2)

pub count-requires : goal.count-requires
count-requires c = quality_bounded c.args.ledger.now _ _ c.requires.0 c.count_delay.ensures

pub returns : goal.returns
returns c =
    let s = c in
    matched_as s.args.ledger.now _ _ s.args.times s.args.offset _ (to_z-of_z w32 s.args.offset s.ranges.offset) c.count_delay.ensures c.count.ensures
