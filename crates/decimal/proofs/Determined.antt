-- The contract of `put_decimal` determines the answer and every lent byte: two exits that meet it are equal. Assumes nothing.
use mathlib.Core.Path.{◌≡◌, sym, ◌∙◌}
use mathlib.Core.List.{List}
use Prim.Native.Nat.{ℕ}
use contract.Lifetimes.{Lfts}
use borrow.Fn.World as World
use borrow.Fn.Kinds as Kinds'
use denote.Triple.Clauses as Clauses
use Rattle.decimal.specs.Writing.{Stands}
use Rattle.decimal.specs.contracts.put_decimal.{signature}
use Rattle.decimal.proofs.put_decimal.Kinds as K
use Rattle.decimal.proofs.put_decimal.Reads.{Post}

-- what stands at a place is one text in one buffer, with one place behind it
pub stands_once : {m at r₁ r₂ : ℕ} {t before after₁ after₂ : List ℕ} → Stands m t before at after₁ r₁ → Stands m t before at after₂ r₂ → (r₁ ≡ r₂) × (after₁ ≡ after₂)
stands_once p q = (p.end ∙ sym q.end, p.bytes ∙ sym q.bytes)

pub put_decimal-unique : (κs : Lfts 1) (a : World.ArgsD signature κs) (r₁ r₂ : World.ResD signature κs) (s₁ s₂ : Clauses.AtExit (Kinds'.ended_of 1 K.ps K.r) κs)
    → Post κs a r₁ s₁ → Post κs a r₂ s₂ → (r₁ ≡ r₂) × (s₁.0.now ≡ s₂.0.now)
put_decimal-unique κs a r₁ r₂ s₁ s₂ p q = stands_once p q
