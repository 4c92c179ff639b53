-- The contract determines the number, the text's buffer, the word of its length and both rooms, and a refusal changes none. Assumes nothing.
use Rattle.std.specs.Prelude.{Result, Ok, Err}
use mathlib.Core.Path.{◌≡◌, refl, sym, ap, ◌∙◌}
use mathlib.Core.List.{List}
use Prim.Native.Nat.{ℕ}
use contract.Lifetimes.{Lfts}
use borrow.Fn.World as World
use borrow.Fn.Kinds as Kinds'
use denote.Triple.Clauses as Clauses
use lib.ListN.{length}
use Rattle.log_whole.specs.Logs.{log_of}
use Rattle.limits.specs.declared.Refusal.{Refusal}
use Rattle.log_whole.specs.declared.Settings.{Settings}
use Rattle.recount.specs.Recount.{rooms_fit, checked_by, recount_by, recount_of_log}
use Rattle.host_recount_log.specs.LogTold.{Left, left_by, recount_log_to}
use Rattle.host_recount_log.specs.contracts.ambrulicciu_recount_log as recount-log
use Rattle.host_recount_log.proofs.ambrulicciu_recount_log.Kinds as kinds
use Rattle.host_recount_log.proofs.ambrulicciu_recount_log.Reads as reads

-- the number, the two rooms, the buffer and the word
pub recount-log-unique :
    (κs : Lfts 5) (a : World.ArgsD recount-log.signature κs) (r₁ r₂ : World.ResD recount-log.signature κs)
    (s₁ s₂ : Clauses.AtExit (Kinds'.ended_of 5 kinds.ps kinds.r) κs)
    → reads.Post κs a r₁ s₁ → reads.Post κs a r₂ s₂
    → (r₁ ≡ r₂) × (s₁.1.0.now ≡ s₂.1.0.now) × (s₁.1.1.0.now ≡ s₂.1.1.0.now) × (s₁.1.1.1.0.now ≡ s₂.1.1.1.0.now) × (s₁.1.1.1.1.0.now ≡ s₂.1.1.1.1.0.now)
recount-log-unique κs a r₁ r₂ s₁ s₂ p q =
    let e = p ∙ sym q in (
      ap (λ (x : Left). x.told.number) e,
      ap (λ (x : Left). x.marks) e,
      ap (λ (x : Left). x.fronts) e,
      ap (λ (x : Left). x.told.text) e,
      ap (λ (x : Left). x.told.length) e,
    )

-- what is left as it was
pub record Unchanged (marks fronts text word : List ℕ) (x : Left) : Type 0 where
  pub same_marks : x.marks ≡ marks
  pub same_fronts : x.fronts ≡ fronts
  pub same_text : x.told.text ≡ text
  pub same_length : x.told.length ≡ word

-- a refusal, 5 or 9, 7, 8 of the log itself, changes nothing
pub refused-unchanged : (log marks fronts text word : List ℕ) → ((recount_log_to log marks fronts text word).told.number ≡ 0 → ⊥)
    → Unchanged marks fronts text word (recount_log_to log marks fronts text word)
unfolding recount_log_to recount_of_log
refused-unchanged log marks fronts text word = go (checked_by (rooms_fit (length marks) (length fronts) (length text)) (log_of log))
  where
    go : (c : Result Settings Refusal) → ((left_by (recount_by c log marks fronts text) word).told.number ≡ 0 → ⊥) → Unchanged marks fronts text word (left_by (recount_by c log marks fronts text) word)
    go (Err r) h = record { same_marks = refl; same_fronts = refl; same_text = refl; same_length = refl }
    go (Ok s) h = absurd (h refl)
