-- The contract determines the number and every lent byte: two exits that meet it are equal. Assumes nothing.
use mathlib.Core.Path.{◌≡◌, sym, ap, ◌∙◌}
use contract.Lifetimes.{Lfts}
use borrow.Fn.World as World
use borrow.Fn.Kinds as Kinds'
use denote.Triple.Clauses as Clauses
use Rattle.log_record.specs.Records.{Told}
use Rattle.host_log_write_sent.specs.contracts.ambrulicciu_log_write_sent as sent
use Rattle.host_log_write_sent.proofs.ambrulicciu_log_write_sent.Kinds as sent-kinds
use Rattle.host_log_write_sent.proofs.ambrulicciu_log_write_sent.Reads as sent-reads

pub write-sent-unique :
    (κs : Lfts 1) (a : World.ArgsD sent.signature κs) (r₁ r₂ : World.ResD sent.signature κs)
    (s₁ s₂ : Clauses.AtExit (Kinds'.ended_of 1 sent-kinds.ps sent-kinds.r) κs)
    → sent-reads.Post κs a r₁ s₁ → sent-reads.Post κs a r₂ s₂ → (r₁ ≡ r₂) × (s₁.0.now ≡ s₂.0.now)
write-sent-unique κs a r₁ r₂ s₁ s₂ p q = let e = p ∙ sym q in (ap (λ (w : Told). w.number) e, ap (λ (w : Told). w.bytes) e)
