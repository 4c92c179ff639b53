use mathlib.Core.Path.{◌∙◌}
use lib.ListN.{length-set}
use Rattle.probe_ring.specs.Rooms.{move_row}
use Rattle.probe_ring.proofs.Moved.{moved_straight, moved-around}
use borrow.Author.Rules.{rules}
use Rattle.probe_ring.proofs.move_rows.Goals as goal

pub returns-then-end-lt-CAPACITY : goal.returns-then-end-lt-CAPACITY
returns-then-end-lt-CAPACITY c = moved_straight 4096 move_row _ _ _ _ c.slide_rows.ensures

pub returns : goal.returns
returns c = moved-around 4096 move_row _ _ _ _ _ (search rules) c.if-end-lt-CAPACITY.false c.slide_rows-2.ensures c.slide_rows-3.ensures
