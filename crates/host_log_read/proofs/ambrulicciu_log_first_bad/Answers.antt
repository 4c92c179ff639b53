use Rattle.std.specs.Prelude.{Err}
use mathlib.Core.Path.{refl, ap, ◌∙◌}
use Prim.Native.Nat.{ℕ}
use Rattle.host_log_read.specs.Answers.{left, number_in}
use Rattle.host_log_read.proofs.Laws.{first_is}
use Rattle.host_log_read.proofs.ambrulicciu_log_first_bad.Goals as goal

pub returns-in-Ok : goal.returns-in-Ok
returns-in-Ok c = first_is _ _ _ _ _ c.check.ensures c.in-Ok.is refl

pub returns-in-BadRecord : goal.returns-in-BadRecord
returns-in-BadRecord c = first_is _ _ _ _ _ c.check.ensures (c.in-Err.is ∙ ap Err c.in-BadRecord.is) refl

pub returns-in-TooLong : goal.returns-in-TooLong
returns-in-TooLong c =
    first_is _ _ _ _ _ c.check.ensures (c.in-Err.is ∙ ap Err c.in-TooLong.is) (ap (λ (n : ℕ). left n c.args.answer.now) (c.number_in.ensures ∙ ap number_in c.in-TooLong.is))

pub returns-in-BadTrailer : goal.returns-in-BadTrailer
returns-in-BadTrailer c =
    first_is _ _ _ _ _ c.check.ensures (c.in-Err.is ∙ ap Err c.in-BadTrailer.is) (ap (λ (n : ℕ). left n c.args.answer.now) (c.number_in-in-BadTrailer.ensures ∙ ap number_in c.in-BadTrailer.is))
