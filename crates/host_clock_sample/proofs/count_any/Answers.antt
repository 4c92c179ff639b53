use mathlib.Core.Path.{sym, subst}
use Rattle.clock_quality.specs.Bounds.{Bounded}
use Rattle.host_quality.specs.Words.{quality_at}
use Rattle.host_clock_sample.proofs.Laws.{bounded_without, any-as}
use Rattle.host_clock_sample.proofs.count_any.Goals as goal

pub recorded-after-requires : goal.recorded-after-requires
recorded-after-requires c = subst Bounded (sym c.quality_without_last-before.ensures) (bounded_without (quality_at 58 c.args.ledger.now) c.requires)

pub returns : goal.returns
returns c = any-as c.args.ledger.now _ c.args.wires _ _ _ c.quality_without_last-before.ensures c.estimates_of.ensures c.recorded-after.ensures c.store_quality.ensures.0
