use Rattle.std.specs.Prelude.{Some}
use mathlib.Core.Path.{sym, ap, ◌∙◌}
use mathlib.Core.Bool.{Bool}
use native.Mathlib.Omega.{arith}
use native.Mathlib.Nat.{mod-lt}
use borrow.Author.Tests.{eq-eqb, ne_eqb}
use Rattle.thousandths.specs.Thousandths.{thousandths_of, thousandths_by}
use Rattle.thousandths.proofs.Places.{three, at_most_one}
use Rattle.thousandths.proofs.thousandths_of.Goals as goal

pub returns-then-requested-eq0 : goal.returns-then-requested-eq0
unfolding thousandths_of
returns-then-requested-eq0 c = sym (ap (λ (b : Bool). thousandths_by b c.args.unobserved c.args.requested) (eq-eqb _ _ c.if-requested-eq0.true))

pub returns-then-requested-lt18446744073709551 : goal.returns-then-requested-lt18446744073709551
unfolding thousandths_of
returns-then-requested-lt18446744073709551 c =
    let s = c.before in
    sym (ap (λ (b : Bool). thousandths_by b s.args.unobserved s.args.requested) (ne_eqb _ _ s.if-requested-eq0.false))

pub tenfold-tenths-requires : goal.tenfold-tenths-requires
tenfold-tenths-requires c = mod-lt c.args.unobserved (omega (arith, c.if-requested-eq0.false))

pub overflow_mul-figure : goal.overflow_mul-figure
overflow_mul-figure c = record { fits = omega (arith, at_most_one c.args.unobserved c.args.requested c.requires) }

pub overflow_add-figure : goal.overflow_add-figure
overflow_add-figure c = record { fits = omega (arith, at_most_one c.args.unobserved c.args.requested c.requires, c.tenfold-tenths.ensures.2) }

pub overflow_add-figure-2 : goal.overflow_add-figure-2
overflow_add-figure-2 c = record { fits = omega (arith, at_most_one c.args.unobserved c.args.requested c.requires, c.tenfold-tenths.ensures.2, c.tenfold-hundredths.ensures.2) }

pub overflow_add-figure-3 : goal.overflow_add-figure-3
overflow_add-figure-3 c = record { fits = omega (arith, at_most_one c.args.unobserved c.args.requested c.requires, c.tenfold-tenths.ensures.2, c.tenfold-hundredths.ensures.2, c.tenfold-thousandths.ensures.2) }

pub returns : goal.returns
unfolding thousandths_of
returns c =
    ap Some (three c.args.unobserved c.args.requested (omega (arith, c.if-requested-eq0.false)) _ _ _ _ _
    c.tenfold-tenths.ensures.0 c.tenfold-tenths.ensures.1 c.tenfold-hundredths.ensures.0 c.tenfold-hundredths.ensures.1 c.tenfold-thousandths.ensures.0)
    ∙ sym (ap (λ (b : Bool). thousandths_by b c.args.unobserved c.args.requested) (ne_eqb _ _ c.if-requested-eq0.false))
