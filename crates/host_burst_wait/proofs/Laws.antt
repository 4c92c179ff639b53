-- From what the parts of the call answer to what a host is told. Assumes nothing.
use mathlib.Core.Path.{◌≡◌, sym, ap, ◌∙◌}
use mathlib.Core.Bool.{Bool, true, false, not, cond}
use mathlib.Core.List.{List, [], ◌∷◌}
use Prim.Native.Nat.{ℕ}
use borrow.Author.Tests.{not-true, not-false}
use Rattle.limits.specs.Refusals.{wrong_room}
use Rattle.ledger_state.specs.BurstWait.{burst_wait}
use Rattle.ledger_state.specs.Refusal.{rings_fit}
use Rattle.host_numbers.specs.Numbers.{flag_word}
use Rattle.host_ledger.specs.Words.{ledger_at}
use Rattle.host_burst_wait.specs.BurstWait.{left, burst_wait_leaves}

module _ (ledger answer : List ℕ) (fit : Bool) (is : fit ≡ rings_fit (ledger_at ledger)) where
  by : (b : Bool) → rings_fit (ledger_at ledger) ≡ b → burst_wait_leaves ledger answer ≡ cond b (left 0 (flag_word (burst_wait (ledger_at ledger)) ∷ [])) (left wrong_room answer)
  unfolding burst_wait_leaves
  by b e = ap (λ (x : Bool). cond x (left 0 (flag_word (burst_wait (ledger_at ledger)) ∷ [])) (left wrong_room answer)) e

  pub refuses : not fit ≡ true → left wrong_room answer ≡ burst_wait_leaves ledger answer
  refuses h = sym (by false (sym is ∙ not-true fit h))

  pub shows : not fit ≡ false → left 0 (flag_word (burst_wait (ledger_at ledger)) ∷ []) ≡ burst_wait_leaves ledger answer
  shows h = sym (by true (sym is ∙ not-false fit h))
