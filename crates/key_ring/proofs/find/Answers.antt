use mathlib.Core.Path.{refl, ◌∙◌}
use native.Mathlib.Omega.{arith}
use borrow.Author.Rules.{rules}
use borrow.Author.Tests.{ltb-true, ltb-false}
use Rattle.chains.proofs.Loop.{walking_inside, walking_found, walking_on, walking_ends}
use Rattle.key_ring.proofs.Searches.{find_walks}
use Rattle.key_ring.proofs.find.Goals as goal

pub loop-place-init : goal.loop-place-init
loop-place-init c = record { bound = omega arith; rest = refl; at = c.place-place.ensures }

pub key_is-requires : goal.key_is-requires
key_is-requires c = let l = walking_inside 4096 _ _ _ _ _ _ _ (omega arith) c.loop-place.invariant (omega (arith, ltb-true)) in search rules

pub returns-then-key_is : goal.returns-then-key_is
returns-then-key_is c = walking_found 4096 _ _ _ _ _ _ _ (omega arith) c.loop-place.invariant _ (omega (arith, ltb-true)) c.key_is.ensures c.if-key_is.true ∙ find_walks c.args.secret c.args.keys.now c.args.keys.now c.args.links.now c.args.ring _ _ c.args.key c.hash.ensures.0 c.first-slot.ensures

pub next-slot-requires : goal.next-slot-requires
next-slot-requires c = let l = walking_inside 4096 _ _ _ _ _ _ _ (omega arith) c.loop-place.invariant (omega (arith, ltb-true)) in search rules

pub loop-place-smaller : goal.loop-place-smaller
loop-place-smaller c = omega (arith, ltb-true)

pub loop-place-preserved : goal.loop-place-preserved
loop-place-preserved c = walking_on 4096 _ _ _ _ _ _ _ (omega arith) c.loop-place.invariant _ _ _ (omega (arith, ltb-true)) c.key_is.ensures c.if-key_is.false c.next-slot.ensures c.place-place-in-loop-place.ensures

pub returns : goal.returns
returns c = walking_ends 4096 _ _ _ _ _ _ _ (omega arith) c.loop-place.invariant (omega (arith, ltb-false)) ∙ find_walks c.args.secret c.args.keys.now c.args.keys.now c.args.links.now c.args.ring _ _ c.args.key c.hash.ensures.0 c.first-slot.ensures
