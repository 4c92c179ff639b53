use mathlib.Core.Path.{refl, ◌∙◌}
use native.Mathlib.Omega.{arith}
use borrow.Author.Rules.{rules}
use borrow.Author.Tests.{ltb-true, ltb-false}
use Rattle.chains.proofs.Loop.{walking_inside, walking_found, walking_on, walking_ends}
use Rattle.key_ring.proofs.Searches.{holder_walks}
use Rattle.key_ring.proofs.holder.Goals as goal

pub loop-place-init : goal.loop-place-init
loop-place-init c = record { bound = omega arith; rest = refl; at = c.place-place.ensures }

pub is_holder-requires : goal.is_holder-requires
is_holder-requires c = let l = walking_inside 4096 _ _ _ _ _ _ _ (omega arith) c.loop-place.invariant (omega (arith, ltb-true)) in search rules

pub returns-then-is_holder : goal.returns-then-is_holder
returns-then-is_holder c = walking_found 4096 _ _ _ _ _ _ _ (omega arith) c.loop-place.invariant _ (omega (arith, ltb-true)) c.is_holder.ensures c.if-is_holder.true ∙ holder_walks c.args.secret c.args.keys.now c.args.slots.now c.args.links.now c.args.ring _ _ c.args.number c.number_hash.ensures.0 c.first-slot.ensures

pub next-slot-requires : goal.next-slot-requires
next-slot-requires c = let l = walking_inside 4096 _ _ _ _ _ _ _ (omega arith) c.loop-place.invariant (omega (arith, ltb-true)) in search rules

pub loop-place-smaller : goal.loop-place-smaller
loop-place-smaller c = omega (arith, ltb-true)

pub loop-place-preserved : goal.loop-place-preserved
loop-place-preserved c = walking_on 4096 _ _ _ _ _ _ _ (omega arith) c.loop-place.invariant _ _ _ (omega (arith, ltb-true)) c.is_holder.ensures c.if-is_holder.false c.next-slot.ensures c.place-place-in-loop-place.ensures

pub returns : goal.returns
returns c = walking_ends 4096 _ _ _ _ _ _ _ (omega arith) c.loop-place.invariant (omega (arith, ltb-false)) ∙ holder_walks c.args.secret c.args.keys.now c.args.slots.now c.args.links.now c.args.ring _ _ c.args.number c.number_hash.ensures.0 c.first-slot.ensures
