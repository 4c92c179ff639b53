-- The contract determines every word. Assumes nothing.
use mathlib.Core.Path.{◌≡◌, sym, ◌∙◌}
use contract.Lifetimes.{Lfts}
use borrow.Fn.World as World
use borrow.Fn.Kinds as Kinds'
use denote.Triple.Clauses as Clauses
use Rattle.host_call_words.specs.contracts.call_words.{signature}
use Rattle.host_call_words.proofs.call_words.Kinds as K
use Rattle.host_call_words.proofs.call_words.Reads.{Post}

pub call-words-unique :
    (κs : Lfts 0) (a : World.ArgsD signature κs) (r₁ r₂ : World.ResD signature κs) (s₁ s₂ : Clauses.AtExit (Kinds'.ended_of 0 K.ps K.r) κs)
    → Post κs a r₁ s₁ → Post κs a r₂ s₂ → r₁ ≡ r₂
call-words-unique κs a r₁ r₂ s₁ s₂ p q = p ∙ sym q
