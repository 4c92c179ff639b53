-- The contract of each public call determines the answer and every lent byte: two exits that meet it are equal. Assumes nothing.
use mathlib.Core.Path.{◌≡◌}
use contract.Lifetimes.{Lfts}
use borrow.Fn.World as World
use borrow.Fn.Kinds as Kinds'
use denote.Triple.Clauses as Clauses
use Rattle.decimal.proofs.Determined.{stands_once}
use Rattle.template.specs.contracts.words.put_text as put-text
use Rattle.template.proofs.words.put_text.Kinds as put-text-kinds
use Rattle.template.proofs.words.put_text.Reads as put-text-reads
use Rattle.template.specs.contracts.words.put_figure as put-figure
use Rattle.template.proofs.words.put_figure.Kinds as put-figure-kinds
use Rattle.template.proofs.words.put_figure.Reads as put-figure-reads
use Rattle.template.specs.contracts.fill as fill
use Rattle.template.proofs.fill.Kinds as fill-kinds
use Rattle.template.proofs.fill.Reads as fill-reads

pub put_text-unique : (κs : Lfts 2) (a : World.ArgsD put-text.signature κs) (r₁ r₂ : World.ResD put-text.signature κs) (s₁ s₂ : Clauses.AtExit (Kinds'.ended_of 2 put-text-kinds.ps put-text-kinds.r) κs)
    → put-text-reads.Post κs a r₁ s₁ → put-text-reads.Post κs a r₂ s₂ → (r₁ ≡ r₂) × (s₁.0.now ≡ s₂.0.now)
put_text-unique κs a r₁ r₂ s₁ s₂ p q = stands_once p q

pub put_figure-unique : (κs : Lfts 2) (a : World.ArgsD put-figure.signature κs) (r₁ r₂ : World.ResD put-figure.signature κs) (s₁ s₂ : Clauses.AtExit (Kinds'.ended_of 2 put-figure-kinds.ps put-figure-kinds.r) κs)
    → put-figure-reads.Post κs a r₁ s₁ → put-figure-reads.Post κs a r₂ s₂ → (r₁ ≡ r₂) × (s₁.0.now ≡ s₂.0.now)
put_figure-unique κs a r₁ r₂ s₁ s₂ p q = stands_once p q

pub fill-unique : (κs : Lfts 2) (a : World.ArgsD fill.signature κs) (r₁ r₂ : World.ResD fill.signature κs) (s₁ s₂ : Clauses.AtExit (Kinds'.ended_of 2 fill-kinds.ps fill-kinds.r) κs)
    → fill-reads.Post κs a r₁ s₁ → fill-reads.Post κs a r₂ s₂ → (r₁ ≡ r₂) × (s₁.0.now ≡ s₂.0.now)
fill-unique κs a r₁ r₂ s₁ s₂ p q = stands_once p q
