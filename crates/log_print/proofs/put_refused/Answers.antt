use mathlib.Core.Path.{sym, ap, ◌∙◌}
use mathlib.Core.List.{List}
use Prim.Native.Nat.{ℕ}
use Rattle.log_print.specs.Printed.{refusal_line, line_in}
use Rattle.log_print.proofs.Laws.{none_said, another_size, its_size}
use Rattle.log_print.proofs.put_refused.Goals as goal

pub returns-then-text-ne-REPORT_ROOM : goal.returns-then-text-ne-REPORT_ROOM
returns-then-text-ne-REPORT_ROOM c = another_size _ _ c.if-text-ne-REPORT_ROOM.true

pub returns-in-Ok : goal.returns-in-Ok
returns-in-Ok c = let a = c.args in its_size a.checked a.text.now c.if-text-ne-REPORT_ROOM.false (none_said a.text.now ∙ ap (λ (l : List ℕ). line_in l a.text.now) (sym (ap refusal_line c.in-Ok.is)))

pub returns-in-Err : goal.returns-in-Err
returns-in-Err c =
    let a = c.args in
    its_size a.checked a.text.now c.if-text-ne-REPORT_ROOM.false (c.put_fault.ensures ∙ ap (λ (l : List ℕ). line_in l a.text.now) (sym (ap refusal_line c.in-Err.is)))
