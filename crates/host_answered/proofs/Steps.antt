-- What the library's call answers on the ledger that the words say, as the words and the number that are left. Assumes nothing.
use Rattle.std.specs.Prelude.{Result, Bool}
use mathlib.Core.Path.{◌≡◌, ap, ◌∙◌}
use mathlib.Core.List.{List}
use Prim.Native.Nat.{ℕ}
use Rattle.ledger_state.specs.declared.Ledger.{Ledger}
use Rattle.ledger_steps.specs.Calls.{answered_to}
use Rattle.host_ledger.specs.Words.{ledger_at}
use Rattle.host_answered.specs.Answered.{left_by, answered_leaves}

pub answered-as :
    (w : List ℕ) (probes links : List (List ℕ)) (sequence : ℕ) (before : List ℕ) (l : Ledger) (r : Result Bool ℕ)
    → l ≡ ledger_at w → r ≡ answered_to l probes links sequence → left_by r before ≡ answered_leaves w probes links sequence before
unfolding answered_leaves
answered-as w probes links sequence before l r e₁ e₂ =
    ap (λ (a : Result Bool ℕ). left_by a before) (e₂ ∙ ap (λ (x : Ledger). answered_to x probes links sequence) e₁)
