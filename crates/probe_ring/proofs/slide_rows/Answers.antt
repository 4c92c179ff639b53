use Prim.Native.Nat.{◌-◌}
use borrow.Author.Rules.{rules}
use Rattle.probe_ring.specs.Rooms.{move_row}
use Rattle.probe_ring.proofs.Slides.{slides, sliding_on, sliding_ends}
use Rattle.probe_ring.proofs.slide_rows.Goals as goal

pub loop-i-init : goal.loop-i-init
loop-i-init c = (search rules, slides 4096 move_row _ _ _ (search rules))

pub loop-i-preserved : goal.loop-i-preserved
loop-i-preserved c = (search rules, sliding_on 4096 move_row _ _ _ _ _ (search rules) c.loop-i-test.true c.loop-i.invariant.1)

pub returns : goal.returns
returns c = sliding_ends 4096 move_row _ _ _ _ _ c.loop-i-test.false c.loop-i.invariant.1
