use mathlib.Core.Path.{ap}
use Prim.Native.Nat.{ℕ}
use Rattle.host_log_trim.specs.Told.{left}
use Rattle.host_log_trim.proofs.Laws.{told_is}
use Rattle.host_log_trim.proofs.ambrulicciu_log_trim.Goals as goal

pub returns-in-Ok : goal.returns-in-Ok
returns-in-Ok c = told_is _ _ _ _ _ _ _ _ _ _ c.trim-trimmed.ensures c.in-Ok.is (ap (left 0 _) c.cut_words.ensures)

pub returns-in-Err : goal.returns-in-Err
returns-in-Err c = told_is _ _ _ _ _ _ _ _ _ _ c.trim-trimmed.ensures c.in-Err.is (ap (λ (n : ℕ). left n c.trim-trimmed.new.room c.args.answer.now) c.from.ensures)
