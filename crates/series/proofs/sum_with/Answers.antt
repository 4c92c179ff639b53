use Rattle.std.proofs.Common.{T, sym, ap, ◌∙◌, subst, arith, ltb→lt, rules, lt-ltb}
use Rattle.delays.specs.declared.Delays.{Delays}
use Rattle.delays.proofs.Signs.{high_bound}
use Rattle.series.proofs.sum_with.Goals as goal

pub recorded-after-requires : goal.recorded-after-requires
recorded-after-requires c = record { count = omega arith; sum = ltb→lt _ _ (subst T (sym (high_bound c.args.sum.high c.args.sum.low (search rules) ∙ lt-ltb _ _ c.requires)) tt) }

pub returns : goal.returns
returns c = ap (λ (d : Delays). d.sum) c.recorded-after.ensures
