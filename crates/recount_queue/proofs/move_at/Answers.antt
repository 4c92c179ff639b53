use mathlib.Core.Path.{sym, ap, ◌∙◌}
use Rattle.recount_queue.specs.Moves.{move_by, move_at}
use Rattle.recount_queue.proofs.Loops.{no_mark}
use Rattle.recount_queue.proofs.move_at.Goals as goal

pub returns-in-Ok : goal.returns-in-Ok
unfolding move_at
returns-in-Ok c = rw (← c.in-Ok.ensures, ← c.call_at-played.ensures) c.move_by.ensures

pub returns-in-Err : goal.returns-in-Err
unfolding move_at
returns-in-Err c = c.move_by-in-Err.ensures ∙ ap (move_by 0) c.call_at-played.ensures ∙ no_mark _ _ c.in-Err.ensures.1
