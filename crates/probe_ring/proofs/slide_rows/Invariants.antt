use mathlib.Core.Path.{◌≡◌}
use lib.ListN.{length}
use Rattle.probe_ring.specs.Rooms.{move_row}
use Rattle.probe_ring.proofs.Slides.{Sliding}
use Rattle.probe_ring.proofs.slide_rows.Given as goal

-- Assumes nothing.
abbrev pub invariant-loop-i : goal.invariant-loop-i
invariant-loop-i l = (length l.rows ≡ 4096) × Sliding 4096 move_row l.from l.to l.initial.rows l.rows l.i
