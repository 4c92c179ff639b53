use mathlib.Core.Path.{ap, ◌∙◌}
use Prim.Native.Nat.{ℕ, ◌+◌}
use borrow.Author.Tests.{eq-eqb, ne_eqb, lt-ltb, le-ltb, le-leb, lt-leb}
use Rattle.sequence_run.proofs.Chosen.{chosen, passed}
use Rattle.sequence_run.proofs.longer.Goals as goal

-- Assumes nothing.
pub returns-then-queued-eq0 : goal.returns-then-queued-eq0
returns-then-queued-eq0 c = chosen _ _ _ (eq-eqb _ _ c.if-queued-eq0.true)

pub returns-then-latest-sequence : goal.returns-then-latest-sequence
returns-then-latest-sequence c = passed _ _ _ (le-ltb _ _ c.if-latest-sequence.true) ∙ passed _ _ _ (ne_eqb _ _ c.if-queued-eq0.false)

pub returns-then-run-queued : goal.returns-then-run-queued
returns-then-run-queued c = ap (λ (n : ℕ). n + 1) (chosen _ _ _ (le-leb _ _ c.if-run-queued.true)) ∙ chosen _ _ _ (lt-ltb _ _ c.if-latest-sequence.false) ∙ passed _ _ _ (ne_eqb _ _ c.if-queued-eq0.false)

pub returns-else-run-queued : goal.returns-else-run-queued
returns-else-run-queued c = ap (λ (n : ℕ). n + 1) (passed _ _ _ (lt-leb _ _ c.if-run-queued.false)) ∙ chosen _ _ _ (lt-ltb _ _ c.if-latest-sequence.false) ∙ passed _ _ _ (ne_eqb _ _ c.if-queued-eq0.false)
