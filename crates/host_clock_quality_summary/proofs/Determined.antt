-- The contract determines the answer and every lent word: two exits that meet it are equal. Assumes nothing.
use mathlib.Core.Path.{◌≡◌, sym, ◌∙◌}
use contract.Lifetimes.{Lfts}
use borrow.Fn.World as World
use borrow.Fn.Kinds as Kinds'
use denote.Triple.Clauses as Clauses
use Rattle.host_clock_quality_summary.specs.contracts.ambrulicciu_clock_quality_summary as summary
use Rattle.host_clock_quality_summary.proofs.ambrulicciu_clock_quality_summary.Kinds as summary-kinds
use Rattle.host_clock_quality_summary.proofs.ambrulicciu_clock_quality_summary.Reads as summary_reads

pub summary-unique :
    (κs : Lfts 2) (a : World.ArgsD summary.signature κs) (r₁ r₂ : World.ResD summary.signature κs)
    (s₁ s₂ : Clauses.AtExit (Kinds'.ended_of 2 summary-kinds.ps summary-kinds.r) κs)
    → summary_reads.Post κs a r₁ s₁ → summary_reads.Post κs a r₂ s₂ → (r₁ ≡ r₂) × (s₁.1.0.now ≡ s₂.1.0.now)
summary-unique κs a r₁ r₂ s₁ s₂ p q = (p.served ∙ sym q.served, p.words ∙ sym q.words)
