use mathlib.Core.Path.{◌≡◌}
use lib.ListN.{length}
use Rattle.probe_ring.specs.Rooms.{move_link, mended_link}
use Rattle.probe_ring.proofs.Slides.{Sliding}
use Rattle.probe_ring.proofs.slide_links.Given as goal

-- Assumes nothing.
abbrev pub invariant-loop-i : goal.invariant-loop-i
invariant-loop-i l = (length l.links ≡ 4096) × Sliding 4096 (move_link (mended_link 4096 l.lift l.gone l.own)) l.from l.to l.initial.links l.links l.i
