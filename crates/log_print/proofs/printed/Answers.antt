use Rattle.std.specs.Prelude.{Result, ℕ}
use mathlib.Core.Path.{sym, ap, ◌∙◌}
use Rattle.log_whole.specs.declared.Fault.{Fault}
use Rattle.log_whole.specs.declared.Settings.{Settings}
use Rattle.log_print.specs.Printed.{refused_in, printed_in}
use Rattle.log_print.proofs.printed.Goals as goal

pub returns-in-Ok : goal.returns-in-Ok
unfolding printed_in
returns-in-Ok c = let a = c.args in ap (λ (x : Result ℕ ℕ). printed_in a.log.now x a.text.now) (sym c.in-Ok.is)

pub returns-in-Err : goal.returns-in-Err
unfolding printed_in
returns-in-Err c =
    let a = c.args in
    c.before.before.put_refused.ensures ∙ ap (λ (l : Result Settings Fault). refused_in l a.text.now) c.check.ensures ∙ ap (λ (x : Result ℕ ℕ). printed_in a.log.now x a.text.now) (sym c.in-Err.is)
