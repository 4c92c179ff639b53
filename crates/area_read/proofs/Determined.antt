-- The contract of `read` determines the answer and each word of the room; and a refusal changes nothing. Assumes nothing.
use Rattle.std.specs.Prelude.{Err}
use Rattle.limits.specs.declared.Refusal.{Refusal}
use mathlib.Core.Path.{◌≡◌, sym, ap, ◌∙◌}
use mathlib.Core.List.{List}
use Prim.Native.Nat.{ℕ}
use contract.Lifetimes.{Lfts}
use borrow.Fn.World as World
use borrow.Fn.Kinds as Kinds'
use denote.Triple.Clauses as Clauses
use Rattle.area_items.specs.Items.{refused, area}
use Rattle.area_read.specs.Read.{Outcome, read_into}
use Rattle.area_read.specs.contracts.read.{signature}
use Rattle.area_read.proofs.read.Kinds as K
use Rattle.area_read.proofs.read.Reads.{Post}

-- any two exits that meet the contract are equal
pub read-unique : (κs : Lfts 2) (a : World.ArgsD signature κs) (x y : World.ResD signature κs) (s t : Clauses.AtExit (Kinds'.ended_of 2 K.ps K.r) κs)
    → Post κs a x s → Post κs a y t → (x ≡ y) × (s.1.0.now ≡ t.1.0.now)
read-unique κs a x y s t p q = let e = p ∙ sym q in (ap (λ (o : Outcome). o.answer) e, ap (λ (o : Outcome). o.room) e)

-- a refused area leaves the room as it was
pub refused-unchanged : (bytes room : List ℕ) (r : Refusal) → area bytes ≡ refused r → read_into bytes room ≡ record { answer = Err r; room = room }
unfolding read_into
refused-unchanged bytes room r e = rw e
