use mathlib.Core.Path.{refl}
use native.Mathlib.Omega.{arith}
use Rattle.chains.specs.Hash.{number_hash}
use Rattle.probe_ring.proofs.Search.{searching_starts, searching_inside, searching_found, searching_on, searching_ends}
use borrow.Author.Rules.{rules}
use Rattle.probe_ring.proofs.find.Goals as goal

pub loop-at-init : goal.loop-at-init
loop-at-init c = searching_starts 4096 c.args.probes.now c.args.links.now c.args.ring.head c.args.ring.len c.args.sequence c.number_hash-hash.result _ _ (omega arith) c.first-slot.ensures c.place-at.ensures

pub offset_bounds-probes-slot : goal.offset_bounds-probes-slot
offset_bounds-probes-slot c = let inside = searching_inside 4096 c.args.probes.now c.args.links.now c.args.ring.head c.args.ring.len c.args.sequence c.number_hash-hash.result c.loop-at.bound c.loop-at.slot c.loop-at.at (omega arith) c.loop-at.invariant c.loop-at-test.true in search rules

pub bounds-probes-slot : goal.bounds-probes-slot
bounds-probes-slot c = let inside = searching_inside 4096 c.args.probes.now c.args.links.now c.args.ring.head c.args.ring.len c.args.sequence c.number_hash-hash.result c.loop-at.bound c.loop-at.slot c.loop-at.at (omega arith) c.loop-at.invariant c.loop-at-test.true in search rules

pub returns-then-sequence-low : goal.returns-then-sequence-low
returns-then-sequence-low c = searching_found 4096 c.args.probes.now c.args.links.now c.args.ring.head c.args.ring.len c.args.sequence c.number_hash-hash.result c.loop-at.bound c.loop-at.slot c.loop-at.at (omega arith) c.loop-at.invariant c.args.ring (number_hash c.args.secret) refl refl c.number_hash-hash.ensures.0 _ c.loop-at-test.true c.low.ensures c.if-sequence-low.true

pub next-slot-requires : goal.next-slot-requires
next-slot-requires c = let inside = searching_inside 4096 c.args.probes.now c.args.links.now c.args.ring.head c.args.ring.len c.args.sequence c.number_hash-hash.result c.loop-at.bound c.loop-at.slot c.loop-at.at (omega arith) c.loop-at.invariant c.loop-at-test.true in search rules

pub loop-at-preserved : goal.loop-at-preserved
loop-at-preserved c = searching_on 4096 c.args.probes.now c.args.links.now c.args.ring.head c.args.ring.len c.args.sequence c.number_hash-hash.result c.loop-at.bound c.loop-at.slot c.loop-at.at (omega arith) c.loop-at.invariant _ _ _ c.loop-at-test.true c.low.ensures c.if-sequence-low.false c.next-slot.ensures c.place-at-in-loop-at.ensures

pub returns : goal.returns
returns c = searching_ends 4096 c.args.probes.now c.args.links.now c.args.ring.head c.args.ring.len c.args.sequence c.number_hash-hash.result c.loop-at.bound c.loop-at.slot c.loop-at.at (omega arith) c.loop-at.invariant c.args.ring (number_hash c.args.secret) refl refl c.number_hash-hash.ensures.0 c.loop-at-test.false
