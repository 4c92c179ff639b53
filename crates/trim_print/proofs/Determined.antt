-- The contracts determine the answer and every lent byte: two exits that meet them are equal. Assumes nothing.
use mathlib.Core.Path.{◌≡◌}
use contract.Lifetimes.{Lfts}
use borrow.Fn.World as World
use borrow.Fn.Kinds as Kinds'
use denote.Triple.Clauses as Clauses
use Rattle.decimal.proofs.Determined.{stands_once}
use Rattle.trim_print.specs.contracts.put_cut as put-cut
use Rattle.trim_print.proofs.put_cut.Kinds as put-cut-kinds
use Rattle.trim_print.proofs.put_cut.Reads as put-cut-reads
use Rattle.trim_print.specs.contracts.put_refused as Put-refused
use Rattle.trim_print.proofs.put_refused.Kinds as put-refused-kinds
use Rattle.trim_print.proofs.put_refused.Reads as put-refused-reads

pub put-cut-unique :
    (κs : Lfts 1) (a : World.ArgsD put-cut.signature κs) (r₁ r₂ : World.ResD put-cut.signature κs) (s₁ s₂ : Clauses.AtExit (Kinds'.ended_of 1 put-cut-kinds.ps put-cut-kinds.r) κs)
    → put-cut-reads.Post κs a r₁ s₁ → put-cut-reads.Post κs a r₂ s₂ → (r₁ ≡ r₂) × (s₁.0.now ≡ s₂.0.now)
put-cut-unique κs a r₁ r₂ s₁ s₂ p q = stands_once p q

pub put-refused-unique :
    (κs : Lfts 1) (a : World.ArgsD Put-refused.signature κs) (r₁ r₂ : World.ResD Put-refused.signature κs) (s₁ s₂ : Clauses.AtExit (Kinds'.ended_of 1 put-refused-kinds.ps put-refused-kinds.r) κs)
    → put-refused-reads.Post κs a r₁ s₁ → put-refused-reads.Post κs a r₂ s₂ → (r₁ ≡ r₂) × (s₁.0.now ≡ s₂.0.now)
put-refused-unique κs a r₁ r₂ s₁ s₂ p q = stands_once p q
