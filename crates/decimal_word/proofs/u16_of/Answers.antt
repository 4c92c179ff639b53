use mathlib.Core.Path.{sym, refl}
use native.Mathlib.Omega.{arith}
use Rattle.decimal_word.proofs.Laws.{word_fits, small_by_lem}
use Rattle.decimal_word.proofs.u16_of.Goals as goal

pub overflow_cast-result : goal.overflow_cast-result
overflow_cast-result c = omega (arith, word_fits c.args.word.now 65535 c.in_ok-n.n (sym c.in_ok-n.ensures))

pub returns : goal.returns
returns c = small_by_lem c.args.word.now _ _ c.in_ok-n.ensures refl

pub returns-in_err-n : goal.returns-in_err-n
returns-in_err-n c = rw c.from_residual.ensures (small_by_lem c.args.word.now _ _ c.in_err-n.ensures refl)
