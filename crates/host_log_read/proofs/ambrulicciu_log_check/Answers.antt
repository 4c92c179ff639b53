use mathlib.Core.Path.{ap}
use Prim.Native.Nat.{ℕ}
use Rattle.host_log_read.specs.Answers.{left}
use Rattle.host_log_read.proofs.Laws.{check_is}
use Rattle.host_log_read.proofs.ambrulicciu_log_check.Goals as goal

pub returns-in-Ok : goal.returns-in-Ok
returns-in-Ok c = check_is _ _ _ _ _ c.check.ensures c.in-Ok.is (ap (left 0) c.settings_words.ensures)

pub returns-in-Err : goal.returns-in-Err
returns-in-Err c = check_is _ _ _ _ _ c.check.ensures c.in-Err.is (ap (λ (n : ℕ). left n c.args.answer.now) c.number_in.ensures)
