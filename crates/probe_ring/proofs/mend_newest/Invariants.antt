use Rattle.probe_ring.specs.Rooms.{mend_row, mended_link}
use Rattle.probe_ring.proofs.Slides.{Mapping}
use Rattle.probe_ring.proofs.mend_newest.Given as goal

-- Assumes nothing.
abbrev pub invariant-loop-row : goal.invariant-loop-row
invariant-loop-row l = Mapping 4096 (mend_row (mended_link 4096 l.lift l.gone l.own)) l.initial.links l.links l.row-index
