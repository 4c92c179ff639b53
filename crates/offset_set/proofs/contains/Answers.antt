use native.Mathlib.Omega.{arith}
use borrow.Author.Tests.{eq-eqb, ne_eqb}
use Rattle.chains.specs.Hash.{number_hash}
use Rattle.offset_set.specs.Offsets.{offset_set}
use Rattle.offset_set.proofs.Search.{searching_starts, searching_found, searching_on, searching_ends}
use Rattle.offset_set.proofs.contains.Goals as goal

pub loop-slot-init : goal.loop-slot-init
loop-slot-init c = searching_starts 4096 (offset_set c.args.offsets.now c.args.links.now c.args.count) c.args.offset c.number_hash-hash.result (omega arith) _ (omega arith) c.first-slot.ensures

pub returns-then-offset-offsets : goal.returns-then-offset-offsets
returns-then-offset-offsets c = searching_found 4096 (offset_set c.args.offsets.now c.args.links.now c.args.count) c.args.offset c.number_hash-hash.result (omega arith) _ _ c.loop-slot.invariant (number_hash c.args.secret) c.number_hash-hash.ensures.0 c.loop-slot-test.true (eq-eqb _ _ c.if-offset-offsets.true)

pub loop-slot-preserved : goal.loop-slot-preserved
loop-slot-preserved c = searching_on 4096 (offset_set c.args.offsets.now c.args.links.now c.args.count) c.args.offset c.number_hash-hash.result (omega arith) _ _ c.loop-slot.invariant _ c.loop-slot-test.true (ne_eqb _ _ c.if-offset-offsets.false) c.next-slot.ensures

pub returns : goal.returns
returns c = searching_ends 4096 (offset_set c.args.offsets.now c.args.links.now c.args.count) c.args.offset c.number_hash-hash.result (omega arith) _ _ c.loop-slot.invariant (number_hash c.args.secret) c.number_hash-hash.ensures.0 c.loop-slot-test.false
