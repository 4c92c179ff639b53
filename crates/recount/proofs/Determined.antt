-- The contract of `recount_log` determines the answer and every lent word; and a refusal changes nothing. Assumes nothing.
use Rattle.limits.proofs.Numbers.{numbered_unique}
use Rattle.limits.specs.Numbers.{numbered}
use Rattle.std.specs.Prelude.{Result, Ok, Err}
use mathlib.Core.Path.{◌≡◌, refl, sym, ap, ◌∙◌}
use mathlib.Core.List.{List, [], ◌∷◌}
use Prim.Native.Nat.{ℕ}
use contract.Lifetimes.{Lfts}
use borrow.Fn.World as World
use borrow.Fn.Kinds as Kinds'
use denote.Triple.Clauses as Clauses
use lib.ListN.{length}
use Rattle.log_whole.specs.Logs.{log_of}
use Rattle.report.specs.Report.{outcome}
use Rattle.limits.specs.declared.Refusal.{Refusal}
use Rattle.log_whole.specs.declared.Settings.{Settings}
use Rattle.recount.specs.Recount.{rooms_fit, checked_by, Recounted, recounted, recount_by, recount_of_log}
use Rattle.recount.specs.contracts.recount_log as recount-log
use Rattle.recount.proofs.recount_log.Kinds as kinds
use Rattle.recount.proofs.recount_log.Reads as reads

-- the answer of an outcome: no value is answered with a refusal
abbrev answer_by : ℕ → List ℕ → Result ℕ ℕ
answer_by number [] = Err number
answer_by number (n ∷ ns) = Ok n

answer_of : (a : Result ℕ ℕ) (buffer : List ℕ) → answer_by (outcome a buffer).number (outcome a buffer).values ≡ a
unfolding outcome
answer_of (Ok n) buffer = refl
answer_of (Err n) buffer = refl

buffer_of : (a : Result ℕ ℕ) (buffer : List ℕ) → (outcome a buffer).buffer ≡ buffer
unfolding outcome
buffer_of (Ok n) buffer = refl
buffer_of (Err n) buffer = refl

-- the answer, both rooms and the buffer
pub recount-log-unique :
    (κs : Lfts 4) (a : World.ArgsD recount-log.signature κs) (r₁ r₂ : World.ResD recount-log.signature κs)
    (s₁ s₂ : Clauses.AtExit (Kinds'.ended_of 4 kinds.ps kinds.r) κs)
    → reads.Post κs a r₁ s₁ → reads.Post κs a r₂ s₂
    → (r₁ ≡ r₂) × (s₁.1.0.now ≡ s₂.1.0.now) × (s₁.1.1.0.now ≡ s₂.1.1.0.now) × (s₁.1.1.1.0.now ≡ s₂.1.1.1.0.now)
recount-log-unique κs a r₁ r₂ s₁ s₂ p q =
    let e = p ∙ sym q in (
      numbered_unique r₁ r₂ (sym (answer_of (numbered r₁) s₁.1.1.1.0.now) ∙ ap (λ (x : Recounted). answer_by x.outcome.number x.outcome.values) e ∙ answer_of (numbered r₂) s₂.1.1.1.0.now),
      ap (λ (x : Recounted). x.marks) e,
      ap (λ (x : Recounted). x.fronts) e,
      sym (buffer_of (numbered r₁) s₁.1.1.1.0.now) ∙ ap (λ (x : Recounted). x.outcome.buffer) e ∙ buffer_of (numbered r₂) s₂.1.1.1.0.now,
    )

-- A refusal changes no byte of the buffer, no mark and no front.
pub refused-unchanged : (log marks marks' fronts fronts' buffer buffer' : List ℕ) (n : ℕ)
    → recounted (outcome (Err n) buffer') marks' fronts' ≡ recount_of_log log marks fronts buffer → (buffer' ≡ buffer) × (marks' ≡ marks) × (fronts' ≡ fronts)
unfolding outcome recount_of_log
refused-unchanged log marks marks' fronts fronts' buffer buffer' n e = go (checked_by (rooms_fit (length marks) (length fronts) (length buffer)) (log_of log)) e
  where
    go : (c : Result Settings Refusal) → recounted (outcome (Err n) buffer') marks' fronts' ≡ recount_by c log marks fronts buffer → (buffer' ≡ buffer) × (marks' ≡ marks) × (fronts' ≡ fronts)
    go (Err r) e = (ap (λ (x : Recounted). x.outcome.buffer) e, ap (λ (x : Recounted). x.marks) e, ap (λ (x : Recounted). x.fronts) e)
    go (Ok s) e = (cc (ap (λ (x : Recounted). x.outcome.values) e), cc (ap (λ (x : Recounted). x.outcome.values) e), cc (ap (λ (x : Recounted). x.outcome.values) e))
