use Prim.Native.Nat.{ℕ}
use lib.ListN.{get_or, set}
use mathlib.Core.List.{[]}
use native.Mathlib.Omega.{arith}
use mathlib.Core.Path.{refl, ap}
use borrow.Author.Rules.{rules}
use Rattle.probe_ring.specs.Rooms.{mend_row, mended_link, mend_newest}
use Rattle.probe_ring.proofs.Slides.{maps, mapping_on, mapping_ends}
use Rattle.probe_ring.proofs.mend_newest.Goals as goal

pub loop-row-init : goal.loop-row-init
loop-row-init c = maps 4096 (mend_row (mended_link 4096 c.args.lift c.args.gone c.args.own)) _ (search rules)

pub loop-row-preserved : goal.loop-row-preserved
loop-row-preserved c =
    mapping_on 4096 (mend_row (mended_link 4096 c.args.lift c.args.gone c.args.own)) _ _ _ _ (omega (arith, c.loop-row-test.true, c.requires.0)) c.loop-row.invariant
    (ap (λ (v : ℕ). set (get_or c.loop-row.links c.loop-row.row-index []) 4 v) c.mended.ensures)

pub returns : goal.returns
unfolding mend_newest
returns c = mapping_ends 4096 (mend_row (mended_link 4096 c.args.lift c.args.gone c.args.own)) _ _ _ (omega (arith, c.loop-row-test.false, c.requires.0)) c.requires.0 refl c.loop-row.invariant
