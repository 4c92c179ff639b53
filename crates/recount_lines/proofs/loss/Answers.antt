use mathlib.Core.Path.{◌∙◌}
use Prim.Native.Nat.{◌*◌}
use native.Mathlib.Omega.{arith}
use Rattle.recount_lines.specs.Lines.{loss_by, loss_at}
use Rattle.recount_lines.proofs.Laws.{product_fits}
use Rattle.recount_lines.proofs.loss.Goals as goal

pub overflow_mul-requested : goal.overflow_mul-requested
overflow_mul-requested c = record { fits = omega (arith, product_fits c.args.copies c.count-sent.result _ _ _ _ c.requires.0 c.requires.2 c.count-sent.ensures) }

pub loss_by-requires : goal.loss_by-requires
loss_by-requires c = product_fits _ _ _ _ _ _ c.requires.0 c.requires.2 c.count-sent.ensures

pub returns : goal.returns
unfolding loss_at
returns c = c.loss_by.ensures ∙ (λ i. loss_by (c.args.copies * c.count-sent.ensures i) (c.count-satisfied.ensures i))
