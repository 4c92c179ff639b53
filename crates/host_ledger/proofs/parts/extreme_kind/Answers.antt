use mathlib.Core.Path.{sym, ap, ◌∙◌}
use Prim.Native.Nat.{ℕ, ◌+◌}
use Rattle.host_ledger.specs.Parts.{extreme_kind}
use Rattle.host_ledger.proofs.parts.extreme_kind.Goals as goal

pub returns-in-Some : goal.returns-in-Some
returns-in-Some c = ap (λ (n : ℕ). 1 + n) c.flag.ensures.0 ∙ sym (ap extreme_kind c.in-Some.is)
