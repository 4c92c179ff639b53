-- Uniqueness of what a function that is lent a slice of structs leaves is stated over its contract's clauses, assertions of the logic at every model,
-- and not over a plain reading of the contract (`Reads`). It says nothing of a crate.
-- Assumes nothing: these are definitions.
use seplogic.Ra.Ura.{Ura}
use base.Logic.{ent, sep}
use contract.Monad.{fact}
use contract.Lifetimes.{Lfts}
use denote.Triple.Entry.{Args, Res}
use denote.Triple.Clauses.{Ended, Clauses, AtExit}

-- of two results and two exits: what is the same of them
abbrev pub Same : Ended → Type 1
Same T = (κs : Lfts T.signature.lifetimes) → Res T.signature κs → Res T.signature κs → AtExit T κs → AtExit T κs → Type 0

-- where the function's own `ensures` holds of two results and two exits after one entry, what `same` says holds of them
abbrev pub Determines : {M : Type 1} (𝓤 : Ura M) (T : Ended) → Clauses 𝓤 T → Same T → Type 1
Determines 𝓤 T c same =
    (κs : Lfts T.signature.lifetimes) (a : Args T.signature κs) (g : (c κs a).ghost) (r₁ r₂ : Res T.signature κs) (s₁ s₂ : AtExit T κs)
    → ent 𝓤 (sep 𝓤 ((c κs a).ensures g r₁ s₁) ((c κs a).ensures g r₂ s₂)) (fact 𝓤 (same κs r₁ r₂ s₁ s₂))
