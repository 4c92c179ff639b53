use Rattle.std.proofs.Common.{◌≡◌, length}
use Rattle.recount_marks.specs.Marks.{marked_to}
use Rattle.recount_marks.proofs.mark_records.Given as goal

abbrev pub invariant-loop-i : goal.invariant-loop-i
invariant-loop-i l = (l.marks ≡ marked_to l.watched l.timeout l.log l.initial.marks l.i) × (length l.marks ≡ length l.initial.marks)
