use Prim.Native.Nat.{◌-◌}
use native.Mathlib.Omega.{arith}
use lib.Count.{leading_le, ones-le}
use Rattle.bit_runs.proofs.Steps.{clean, word_through, word-mixed}
use Rattle.word_runs.proofs.after_word.Goals as goal

pub returns-then-word-eq0 : goal.returns-then-word-eq0
returns-then-word-eq0 c = clean 63 c.args.t c.requires.run c.args.word c.if-word-eq0.true

pub returns-then-word-eq-ALL_ONES : goal.returns-then-word-eq-ALL_ONES
returns-then-word-eq-ALL_ONES c =
    let a = c.args in
    word_through a.t a.word c.max.result c.if-word-eq-ALL_ONES.true c.max.ensures

pub overflow_add-t : goal.overflow_add-t
overflow_add-t c =
    record { fits = omega (arith, leading_le 64 (18446744073709551615 - c.args.word), c.requires.longest, c.requires.run) }

pub overflow_add-result-2 : goal.overflow_add-result-2
overflow_add-result-2 c =
    record { fits = omega (arith, ones-le 64 c.args.word c.ranges.word.fits, c.requires.errors) }

pub returns : goal.returns
returns c =
    word-mixed c.args.t c.args.word c.with_runs_inside.result c.ranges.word.fits c.if-word-eq-ALL_ONES.false
    (omega (arith, c.with_runs_inside.ensures, c.max-reached.ensures))
