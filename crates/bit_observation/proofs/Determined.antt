-- The contract of `observation` determines its answer. Assumes nothing.
use mathlib.Core.Path.{◌≡◌, sym, ◌∙◌}
use contract.Lifetimes.{Lfts}
use borrow.Fn.World as World
use borrow.Fn.Kinds as Kinds'
use denote.Triple.Clauses as Clauses
use Rattle.bit_observation.specs.contracts.observation.{signature}
use Rattle.bit_observation.proofs.observation.Kinds as K
use Rattle.bit_observation.proofs.observation.Reads.{Post}

pub observation-unique : (κs : Lfts 3) (a : World.ArgsD signature κs) (x y : World.ResD signature κs) (s t : Clauses.AtExit (Kinds'.ended_of 3 K.ps K.r) κs)
    → Post κs a x s → Post κs a y t → x ≡ y
observation-unique κs a x y s t p q = p ∙ sym q
